-- No promise of an entry point rests on this text: the status of each cell of a plan as a number in a list, and what a record does to
-- the list.
use Rattle.std.specs.Prelude.{ℕ, ◌≤◌, ◌<◌, ◌≡◌, Bool, true, false, cond, not, List, eqb, length, get_or}
use Rattle.std.proofs.Math.Option.{none, some}
use Rattle.std.specs.Int.Bits.{bit_and, bit_or}
use Rattle.model.specs.Sides.{Side, Layout, cell_count}
use Rattle.model.specs.Records.{Verb, Action, stepped, covers}
use Rattle.model.specs.Effects.{State, effect}
use Rattle.model.specs.Runs.{lowest_unmet}
use Rattle.model.specs.Inner.Statuses.{Status, status_of}
use Rattle.memories.specs.Inner.Ranges.{Changed}
use Rattle.statuses.specs.Inner.Sets.{index, touched_met, touched_after}
use Rattle.tracked.specs.declared.masks.Masks.{Masks}

-- a record of kind 1 to 5, on side 0 or 1
abbrev pub Acting : ℕ → ℕ → Type 0
Acting kind side = (1 ≤ kind) × (kind ≤ 5) × (side ≤ 1)

-- whether a record with these masks stops in status w, and the status after it
unfoldable pub stops_by : Masks → ℕ → Bool
stops_by m w = eqb (bit_and w m.test) m.unmet

unfoldable pub after_by : Masks → ℕ → ℕ
after_by m w = cond (eqb (bit_and w m.held) 0) (bit_or (bit_and w m.keep) m.set) w

-- the masks say of each status what a verb on side s needs, and what it does where that is met
pub record Tells (v : Verb) (s : Side) (m : Masks) : Type 0 where
  pub stops : (u : Status) → stops_by m (index u) ≡ not (touched_met v s u)
  pub after : (u : Status) → touched_met v s u ≡ true → after_by m (index u) ≡ index (touched_after v s u)

-- whether one of the cells `from`, `from` + k and so on below `to` stops
pub record StopsIn (k from to : ℕ) (stops : ℕ → Bool) (r : Bool) : Type 0 where
  pub one : r ≡ true → (c : ℕ) × (stepped k from to c ≡ true) × (stops c ≡ true)
  pub none : r ≡ false → (c : ℕ) → stepped k from to c ≡ true → stops c ≡ false

-- a record with these masks stops in one of them, or does not, and they have the statuses after it
pub record Touched (m : Masks) (k from to : ℕ) (before after : List ℕ) (r : Bool) : Type 0 where
  pub stops : StopsIn k from to (λ c. stops_by m (get_or before c 0)) r
  pub cells : Changed k from to (λ c. after_by m (get_or before c 0)) before after

-- the list has the status of each cell in state σ
pub record Statuses (layout : Layout) (σ : State) (l : List ℕ) : Type 0 where
  pub room : cell_count layout ≤ length l
  pub listed : (c : ℕ) → c < cell_count layout → get_or l c 0 ≡ index (status_of layout c σ)

-- the cells that a record covers are these, and cells of the plan
pub record Covered (layout : Layout) (x : Action) (k from to : ℕ) : Type 0 where
  pub cells : (c : ℕ) → covers layout x c ≡ stepped k from to c
  pub ends : to ≤ cell_count layout

-- the record is stuck, or the list has the statuses after it
pub record Tracks (layout : Layout) (x : Action) (σ : State) (stuck : Bool) (l : List ℕ) : Type 0 where
  pub stops : stuck ≡ true → (c : ℕ) × (lowest_unmet layout x σ ≡ some c)
  pub goes : stuck ≡ false → (lowest_unmet layout x σ ≡ none) × Statuses layout (effect layout x σ) l
