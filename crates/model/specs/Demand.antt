-- Demand 3 (document 01, 'The words of demand 3'; document 02, request f).
use Rattle.std.specs.Prelude.{ℕ, suc, ◌<◌, ◌≡◌, List, [], ◌∷◌, ◌++◌, map, reverse, Bool, true, false, cond, not, ◌&&◌, length, eqb}
use Rattle.model.specs.Verdicts.{Accepted}
use Rattle.model.specs.Lists.{any, keep, chain, All}
use Rattle.model.specs.Sides.{Side, host, same_side, at, Layout, cell_count, span_of, in_span, is_scratch, has_scratch, scratch_cell}
use Rattle.model.specs.Records.{read, write, same_verb, whole, Action, covers}
use Rattle.model.specs.Effects.{Deed, nothing, gets, puts, moves}
use Rattle.model.specs.Blocks.{Block, act}
use Rattle.model.specs.Runs.{Event, Config, finished, stopped, next, proper, step, Run, Ends, tally}
use Rattle.model.specs.Check.{Answers}
use Rattle.model.specs.Judging.{R_or_RW, W_or_RW, Declaration, Pass, DeclaredPlan, pass_of, Way, Itself}
use Rattle.model.specs.Expanding.{inserted, expansion}

-- "The latest write of a cell is the last executed write record that covers it, and its stamp is that record's k; before any, the stamp is
-- 0."
abbrev pub latest_write : Layout → List Event → ℕ → ℕ
latest_write layout [] c = 0
latest_write layout (e ∷ l) c =
    cond (same_verb e.action.verb write && covers layout e.action c) (suc (tally layout l).writes) (latest_write layout l c)

-- one call: "The branches and loops inside a called pass take their choices from that list too."
pub data Called (passes : List Pass) : ℕ → List Bool → List Bool → List Pass → Type 0 where
  called : {b : ℕ} {cs ds : List Bool} {w : List Action} →
      Way Itself (pass_of passes b).body cs ds w → Called passes b cs ds (pass_of passes b ∷ [])

-- "The passes of a run are the calls that body 0 reaches on the same list of choices, in order"; `unused` are the choices left
abbrev pub Calls : DeclaredPlan → List Bool → List Bool → List Pass → Type 0
Calls plan cs unused ps = Way (Called plan.passes) plan.body0 cs unused ps

-- a declaration that a run makes, and its needs and marks as executed: "Each makes its declarations when it is reached."
pub record Made : Type 0 where
  pub declaration : Declaration
  pub events : List Event

-- a declared write of array a: W or RW
abbrev pub declares_write : ℕ → Made → Bool
declares_write a d = eqb d.declaration.array a && W_or_RW d.declaration.mode

-- R or RW of array a on side s
abbrev pub declares_read : ℕ → Side → Made → Bool
declares_read a s d = eqb d.declaration.array a && (R_or_RW d.declaration.mode && same_side d.declaration.side s)

-- whether a deed is a copy to side t
abbrev pub copies_to : Side → Deed → Bool
copies_to t nothing = false
copies_to t (gets s) = false
copies_to t (puts s) = false
copies_to t (moves from to) = same_side to t

-- all needs and marks of these declarations, in order
abbrev pub events_of : List Made → List Event
events_of made = chain (λ (d : Made). d.events) made

-- "An array moves at each need of it that copies": how often array a does so to side t
abbrev pub moves_to : ℕ → Side → List Made → ℕ
moves_to a t made = length (keep (λ (e : Event). eqb e.action.name a && copies_to t e.deed) (events_of made))

-- an interval of array a goes up to its next declared write, that one included ("the need of an RW still belongs to the interval that this
-- RW closes"), or to the run's end. A pass declares an array at most once, so going by declarations is going by passes
abbrev pub interval : ℕ → List Made → List Made
interval a [] = []
interval a (d ∷ l) = cond (declares_write a d) (d ∷ []) (d ∷ interval a l)

-- in an interval that a write on side w began: one move to the opposite side if R or RW of the array is declared there on that side, and no
-- other
abbrev pub MovesOnce : ℕ → Side → List Made → Type 0
MovesOnce a w made = (t : Side) → moves_to a t made ≡ cond (not (same_side t w) && any (declares_read a t) made) 1 0

-- of a run that finishes at configuration k: each array moves exactly when it must between two declared writes, and never otherwise
pub record ExactMoves (plan : DeclaredPlan) (cs : List Bool) (k : Config) : Type 0 where
  -- the passes of the run, in order, which are determined; they leave the choices that the run leaves
  pub passes : List Pass
  pub calls : Calls plan cs k.choices passes
  pub only : (unused : List Bool) (ps : List Pass) → Calls plan cs unused ps → ps ≡ passes
  -- the declarations that they make, in order
  pub made : List Made
  pub from_passes : map (λ (d : Made). d.declaration) made ≡ chain (λ (p : Pass). p.declarations) passes
  -- each gave its needs and marks, and all needs and marks that the run executed are theirs, in order
  pub gave : All (λ (d : Made). map (λ (e : Event). e.action) d.events ≡ inserted d.declaration) made
  pub in_order : keep (λ (e : Event). whole e.action.verb) (reverse k.history) ≡ events_of made
  -- the first interval of an array begins at the start, on the host, if it is not scratch, every other one at a declared write, on its side
  pub from_start : (a : ℕ) → is_scratch plan.layout a ≡ false → MovesOnce a host (interval a made)
  -- "For such an array the first interval begins with its first mark": scratch does not move before
  pub before_mark : (a c : ℕ) → is_scratch plan.layout a ≡ true → in_span (span_of plan.layout a) c ≡ true →
      (t : Side) → moves_to a t (interval a made) ≡ 0
  pub from_write : (a : ℕ) (before after : List Made) (d : Made) → made ≡ before ++ (d ∷ after) → declares_write a d ≡ true →
      MovesOnce a d.declaration.side (interval a after)

-- of a plan with scratch, that its "expansion passes the check"; of any other plan nothing is asked
abbrev pub ScratchPasses : DeclaredPlan → Type 0
ScratchPasses plan = has_scratch plan.layout ≡ true → Answers (expansion plan) Accepted

-- Demand 3: "a single claim about a plan and the whole list of choices"
pub record Demand3 (plan : DeclaredPlan) (cs : List Bool) : Type 0 where
  -- no record gets stuck; "Plans with such an array are free from stops if their expansion passes the check."
  pub never_stuck : ScratchPasses plan → (k : Config) (r c : ℕ) → Ends (expansion plan) cs k (stopped r c) → ⊥
  -- every read that is executed gets the stamp of the latest write ("A read gets its cells' copies on its side")
  pub reads_latest : (k k' : Config) → Run proper (expansion plan) cs k → step proper plan.layout k ≡ next k' →
      (r : ℕ) (x : Action) (b : Block Action) → k.left ≡ act r x b → x.verb ≡ read →
      (c : ℕ) → c < cell_count plan.layout → covers plan.layout x c ≡ true →
      (k.state.cell c).held x.side ≡ at (latest_write plan.layout k.history c)
  -- at each moment each cell is current on some side: a copy of it holds the stamp of the latest write; of scratch this "is promised from
  -- the cell's first write"
  pub always_current : (k : Config) → Run proper (expansion plan) cs k → (c : ℕ) → c < cell_count plan.layout →
      (scratch_cell plan.layout c ≡ true → latest_write plan.layout k.history c ≡ 0 → ⊥) →
      (s : Side) × ((k.state.cell c).held s ≡ at (latest_write plan.layout k.history c))
  -- in a finished run each array moves exactly when it must between two declared writes
  pub moves_exactly : (k : Config) → Ends (expansion plan) cs k finished → ExactMoves plan cs k
