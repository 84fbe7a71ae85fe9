-- Demand 3 is not empty: a plan that the judge accepts, a W on the card and then an RW on the host of an array of two cells,
-- whose run finishes and moves the array once, in the interval that the RW closes. And of scratch an RW first, which the judge accepts and a
-- run does not (document 02, request f).
use Prim.Native.Nat.{ℕ, zero, suc, ◌<◌}
use mathlib.Core.Path.{◌≡◌, refl}
use mathlib.Core.List.{[], ◌∷◌, ◌++◌, reverse}
use mathlib.Core.Bool.{Bool, true, false, true≢false}
use native.Mathlib.Omega.{arith}
use Rattle.model.specs.Lists.{sum_before}
use Rattle.model.specs.Sides.{Side, host, card, Layout}
use Rattle.model.specs.Records.{Verb, read, write, need, mark, Action, whole_of, covers}
use Rattle.model.specs.Effects.{Deed, nothing, gets, puts, moves}
use Rattle.model.specs.Blocks.{Block, act}
use Rattle.model.specs.Runs.{Event, Config, Step, next, ends, finished, stopped, step, begin, here, onward, Ends, proper}
use Rattle.model.specs.Judging.{W, RW, Pass, DeclaredPlan, Rules, Accepts}
use Rattle.model.specs.Expanding.{expansion}
use Rattle.model.specs.Demand.{Made, moves_to, interval, ExactMoves}
use Rattle.model.proofs.Numbering.{span_within}
use Rattle.model.proofs.Written.{always_written}
use Rattle.model.proofs.Demand3.{demand3}

-- of both cells
abbrev of_both : Verb → Side → Action
of_both v s = record { verb = v; side = s; name = 0; step = 0; p = 0; q = 2 }

abbrev fill : Pass
fill = record { declarations = record { mode = W; side = card; array = 0 } ∷ []; body = act 0 (of_both write card) Block.done }

abbrev amend : Pass
amend = record { declarations = record { mode = RW; side = host; array = 0 } ∷ []; body = act 0 (of_both read host) (act 0 (of_both write host) Block.done) }

-- an array of two cells that is scratch or not
abbrev array : Bool → Layout
array scratch = record { lengths = 2 ∷ []; scratch = scratch ∷ [] }

abbrev plan : DeclaredPlan
plan = record { layout = array false; body0 = act 0 1 (act 0 2 Block.done); passes = fill ∷ (amend ∷ []) }

both : (b : Bool) (c : ℕ) → c < 2 → covers (array b) (of_both write card) c ≡ true
unfolding covers sum_before
both b zero h = refl
both b (suc zero) h = refl
both b (suc (suc c)) h = absurd (omega arith)

fill_rules : (b : Bool) → Rules (array b) fill
fill_rules b = record { once = refl; permitted = refl; written = (λ m c i. (always_written (array b) card c fill.body).0 (rw (both b c (span_within (array b) 0 c i))), tt) }

amend_rules : (b : Bool) → Rules (array b) amend
amend_rules b = record { once = refl; permitted = refl; written = (λ m. absurd (true≢false (cc)), tt) }

pub accepted : Accepts plan
accepted = (fill_rules false, (amend_rules false, tt))

-- the configuration after one more step
abbrev after : Config → Config
after k = go (step proper plan.layout k)
  where
    go : Step → Config
    go (next k') = k'
    go (ends e) = k

abbrev last : Config
last = after (after (after (after (after (after (begin (expansion plan) []))))))

pub ends_finished : Ends (expansion plan) [] last finished
unfolding covers sum_before
ends_finished = record { run = onward (onward (onward (onward (onward (onward here refl) refl) refl) refl) refl) refl; last = refl }

abbrev did : ℕ → Action → Deed → Event
did r x d = record { number = r; action = x; deed = d }

-- the declarations as made: the need of the RW copied
abbrev filled : Made
filled = record { declaration = record { mode = W; side = card; array = 0 }; events = did 0 (whole_of mark card 0) nothing ∷ [] }

abbrev amended : Made
amended = record { declaration = record { mode = RW; side = host; array = 0 }; events = did 2 (whole_of need host 0) (moves card host) ∷ (did 3 (whole_of mark host 0) nothing ∷ []) }

pub history : reverse last.history ≡ filled.events ++ (did 1 (of_both write card) (puts card) ∷ (amended.events ++ (did 4 (of_both read host) (gets host) ∷ (did 5 (of_both write host) (puts host) ∷ []))))
unfolding covers sum_before
history = refl

-- the interval from the start, which the W closes, has no move; the one from the W, which the RW closes, has one, to the host
pub intervals : (interval 0 (filled ∷ (amended ∷ [])) ≡ filled ∷ []) × (interval 0 (amended ∷ []) ≡ amended ∷ [])
intervals = (refl, refl)

pub one_move : (moves_to 0 card (filled ∷ []) ≡ 0) × (moves_to 0 host (amended ∷ []) ≡ 1) × (moves_to 0 card (amended ∷ []) ≡ 0)
one_move = (refl, refl, refl)

pub moved : ExactMoves plan [] last
moved = (demand3 plan accepted []).moves_exactly last ends_finished

-- the RW alone, of scratch: the judge accepts it, and its need is stuck
abbrev unfilled : DeclaredPlan
unfilled = record { layout = array true; body0 = act 0 2 Block.done; passes = fill ∷ (amend ∷ []) }

pub unfilled_accepted : Accepts unfilled
unfilled_accepted = (fill_rules true, (amend_rules true, tt))

pub unfilled_stuck : Ends (expansion unfilled) [] (begin (expansion unfilled) []) (stopped 0 0)
unfolding covers sum_before
unfilled_stuck = record { run = here; last = refl }
