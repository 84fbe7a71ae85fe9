-- In a run each cell is current on some side, once it has been written or if it is not scratch.
use Prim.Native.Nat.{ℕ, suc, ◌<◌}
use mathlib.Core.Path.{◌≡◌, refl, ap}
use mathlib.Core.Logic.{◌⊎◌, inl, inr}
use mathlib.Core.List.{List}
use mathlib.Core.Bool.{Bool, true, false, cond, not, ◌||◌, false≢true}
use mathlib.Core.Option.{none}
use borrow.Author.Tests.{eqb-true}
use Rattle.model.specs.Sides.{Side, host, Stamp, never, at, equals, cell_count, scratch_cell}
use Rattle.model.specs.Records.{Action, covers}
use Rattle.model.specs.Effects.{Stamps, State, start, Deed, nothing, gets, puts, moves, needs, does, deed, effect}
use Rattle.model.specs.Blocks.{Plan}
use Rattle.model.specs.Runs.{Config, lowest_unmet, proper, Run}
use Rattle.model.proofs.Booleans.{is_same}
use Rattle.model.proofs.Runs.{along}
use Rattle.model.proofs.Unmet.{all_met}

pub equal_stamp : (x : Stamp) (k : ℕ) → equals x k ≡ true → x ≡ at k
equal_stamp never k e = absurd (false≢true e)
equal_stamp (at j) k e = ap at (eqb-true j k e)

-- current on some side, or scratch that was never written
abbrev pub CurrentOr : Bool → Stamps → Type 0
CurrentOr scratch u = ((s : Side) × (u.held s ≡ at u.latest)) ⊎ ((scratch ≡ true) × (u.latest ≡ 0))

-- a deed whose need is met keeps a cell current: a write makes it so, a copy comes from a side where it is
does_current : (scratch : Bool) (k : ℕ) (d : Deed) (u : Stamps) → needs d u ≡ true → CurrentOr scratch u → CurrentOr scratch (does k d u)
does_current scratch k nothing u e h = h
does_current scratch k (gets s) u e h = h
does_current scratch k (puts s) u e h = inl (s, rw (is_same s))
does_current scratch k (moves from to) u e h = inl (to, rw (is_same to) (equal_stamp (u.held from) u.latest e))

module _ (plan : Plan) (c : ℕ) (inside : c < cell_count plan.layout) where
  abbrev scratch : Bool
  scratch = scratch_cell plan.layout c

  first_current : CurrentOr scratch ((start plan.layout).cell c)
  first_current = go scratch refl
    where
      go : (z : Bool) → scratch ≡ z → CurrentOr scratch ((start plan.layout).cell c)
      go true e = inr (e, refl)
      go false e = inl (host, rw e)

  effect_current : (x : Action) (σ : State) → lowest_unmet plan.layout x σ ≡ none → CurrentOr scratch (σ.cell c) → CurrentOr scratch ((effect plan.layout x σ).cell c)
  effect_current x σ u h = go (covers plan.layout x c) (all_met plan.layout x σ u c inside)
    where
      go : (b : Bool) → (not b || needs (deed x σ) (σ.cell c)) ≡ true → CurrentOr scratch (cond b (does (suc σ.writes) (deed x σ) (σ.cell c)) (σ.cell c))
      go true e = does_current scratch (suc σ.writes) (deed x σ) (σ.cell c) e h
      go false e = h

  pub current_or_unwritten : {cs : List Bool} {k : Config} → Run proper plan cs k → CurrentOr (scratch_cell plan.layout c) (k.state.cell c)
  current_or_unwritten h = along proper plan (λ σ l. CurrentOr scratch (σ.cell c)) first_current (λ r x σ l. effect_current x σ) h
