-- Examples of logs, run by the definition: every step is one entry.
use mathlib.Core.Path.{refl}
use mathlib.Core.List.{[], ◌∷◌}
use mathlib.Core.Bool.{true, false}
use Rattle.model.specs.Lists.{sum_before}
use Rattle.model.specs.Sides.{host, card}
use native.Mathlib.Omega.{arith}
use Rattle.model.specs.Records.{read, write, copy, Action, covers}
use Rattle.model.specs.Blocks.{Block, numbered, ◌⨾◌, Plan}
use Rattle.model.specs.Runs.{proper}
use Rattle.model.specs.Cases.{single, ◌on◌}
use Rattle.logs.specs.Logs.{Begins, Stuck}

-- a plan over one cell
abbrev plan_of_one : Block Action → Plan
plan_of_one b = record { layout = single 1; body = numbered 0 b }

-- a fixed loop of two turns (write card), copy to host, read host: an entry a turn, none at its end
abbrev filling : Plan
filling = plan_of_one (Block.fixed 0 1 (write on card ⨾ Block.done) (copy on host ⨾ read on host ⨾ Block.done))

filled : Begins proper filling (0 ∷ 1 ∷ 0 ∷ 1 ∷ 2 ∷ 3 ∷ [])
unfolding covers sum_before
filled = record { choices = []; config = _; logs = (_, refl, refl, (_, refl, refl, (_, refl, refl, (_, refl, refl, (_, refl, refl, (_, refl, refl, refl)))))) }

-- a free loop (read host) twice, its last test included, then a branch with two empty arms
abbrev reading : Plan
reading = plan_of_one (Block.loop 0 (read on host ⨾ Block.done) (Block.branch 0 Block.done Block.done (write on host ⨾ Block.done)))

read_twice : Begins proper reading (0 ∷ 1 ∷ 0 ∷ 1 ∷ 0 ∷ 2 ∷ 3 ∷ [])
unfolding covers sum_before
read_twice = record {
  choices = true ∷ true ∷ false ∷ false ∷ [];
  config = _;
  logs = (_, refl, refl, (_, refl, refl, (_, refl, refl, (_, refl, refl, (_, refl, refl, (_, refl, refl, (_, refl, refl, refl)))))));
}

-- write card, read host: the read is stuck
abbrev stale : Plan
stale = plan_of_one (write on card ⨾ read on host ⨾ Block.done)

stuck_there : Stuck stale (0 ∷ 1 ∷ []) 1
unfolding covers sum_before
stuck_there = record { inside = omega arith; before = record { choices = []; config = _; logs = (_, refl, refl, refl) }; cell = 0; stops = refl }
