-- No promise of an entry point rests on this text: where a run stands, what follows a turn, a record as executed, stamps of the past.
use Rattle.std.specs.Prelude.{ℕ, zero, suc, ◌≤◌, List, Bool}
use Rattle.model.specs.Sides.{Side, Stamp, never, at}
use Rattle.model.specs.Records.{Action}
use Rattle.model.specs.Effects.{State, deed}
use Rattle.model.specs.Blocks.{Block, fixed}
use Rattle.model.specs.Runs.{Event, Config}

abbrev pub config : Block Action → List Bool → State → List Event → Config
config b cs σ l = record { left = b; choices = cs; state = σ; history = l }

-- what follows the turn at hand of a fixed loop: the rest after the last turn, and else the loop with one turn less to come
abbrev pub after_turn : {A : Type 0} → ℕ → ℕ → Block A → Block A → Block A
after_turn r zero x b = b
after_turn r (suc n) x b = fixed r n x b

-- record r as it is executed
abbrev pub event : ℕ → Action → State → Event
event r x σ = record { number = r; action = x; deed = deed x σ }

-- a stamp that is not ahead of w writes
abbrev pub Old : ℕ → Stamp → Type 0
Old w never = Unit {0}
Old w (at j) = j ≤ w

-- no stamp is ahead of the writes
pub record Past (σ : State) : Type 0 where
  pub held : (s : Side) (c : ℕ) → Old σ.writes ((σ.cell c).held s)
  pub latest : (c : ℕ) → (σ.cell c).latest ≤ σ.writes
