-- Stamps: the `latest` of a state is the latest write of the history, and no stamp is ahead of the count of writes,
-- so that the stamp of the next write equals no copy.
use Prim.Native.Nat.{ℕ, suc, ◌≤◌}
use mathlib.Core.Path.{◌≡◌, refl, ap, sym, ◌∙◌}
use mathlib.Core.Logic.{◌≢◌, ◌⊎◌, inl, inr}
use mathlib.Core.List.{List, ◌∷◌}
use mathlib.Core.Bool.{Bool, true, false, cond}
use native.Mathlib.Omega.{arith}
use lib.Dec.{eqb}
use borrow.Author.Tests.{eqb-true}
use Rattle.model.specs.declared.Tally.{Tally}
use Rattle.model.specs.Sides.{Side, same_side, Stamp, never, at, equals, Layout}
use Rattle.model.specs.Records.{Verb, read, write, copy, need, mark, same_verb, Action, covers}
use Rattle.model.specs.Effects.{Stamps, Flags, State, starts_filled, start, Deed, nothing, gets, puts, moves, comes_to, does, counted, deed, effect}
use Rattle.model.specs.Blocks.{Plan}
use Rattle.model.specs.Runs.{Event, Config, tally, carried_on, Run}
use Rattle.model.specs.Demand.{latest_write}
use Rattle.model.specs.Claims.{ClaimLatest, ClaimFresh}
use Rattle.model.proofs.Booleans.{false_of}
use Rattle.model.proofs.Needs.{flag_set, flag_clear}
use Rattle.model.proofs.Runs.{along}
pub use Rattle.model.specs.Inner.Events.{event, Old, Past}

old_suc : (w : ℕ) (x : Stamp) → Old w x → Old (suc w) x
old_suc w never h = tt
old_suc w (at j) h = omega arith

old_cond : (w : ℕ) (b : Bool) (x y : Stamp) → Old w x → Old w y → Old w (cond b x y)
old_cond w true x y h k = h
old_cond w false x y h k = k

-- an old stamp is not the next one
pub old_stale : (w : ℕ) (x : Stamp) → Old w x → equals x (suc w) ≡ false
old_stale w never h = refl
old_stale w (at j) h = false_of (eqb j (suc w)) λ e. let q : j ≡ suc w = eqb-true j (suc w) e in omega arith

past_start : (layout : Layout) → Past (start layout)
past_start layout = record { held = λ s c. old_cond 0 (starts_filled layout s c) (at 0) never (omega arith) tt; latest = λ c. omega arith }

-- a deed that puts no stamp
abbrev pub Quiet : Deed → Type 0
Quiet nothing = Unit {0}
Quiet (gets s) = Unit {0}
Quiet (puts s) = ⊥
Quiet (moves from to) = Unit {0}

-- a record is a write, or it puts no stamp
pub write_or_quiet : (x : Action) (σ : State) → (x.verb ≡ write) ⊎ ((same_verb x.verb write ≡ false) × Quiet (deed x σ))
write_or_quiet x σ = go x.verb
  where
    f : Flags
    f = σ.flags x.name

    quiet_need : (b : Bool) → f.flag x.side ≡ b → Quiet (comes_to need x.side f).0
    quiet_need true e = rw (flag_set x.side f e) tt
    quiet_need false e = rw (flag_clear x.side f e) tt

    go : (v : Verb) → (v ≡ write) ⊎ ((same_verb v write ≡ false) × Quiet (comes_to v x.side f).0)
    go read = inr (refl, tt)
    go write = inl refl
    go copy = inr (refl, tt)
    go need = inr (refl, quiet_need (f.flag x.side) refl)
    go mark = inr (refl, tt)

-- a record with another verb
abbrev pub as_verb : Verb → Action → Action
as_verb v x = record { verb = v; side = x.side; name = x.name; step = x.step; p = x.p; q = x.q }

-- the stamps of one cell
abbrev OldCell : ℕ → Stamps → Type 0
OldCell w u = ((s : Side) → Old w (u.held s)) × (u.latest ≤ w)

old_cell : (w : ℕ) (b : Bool) (u v : Stamps) → OldCell w u → OldCell w v → OldCell w (cond b u v)
old_cell w true u v h k = h
old_cell w false u v h k = k

old_put : (w : ℕ) (s : Side) (u : Stamps) → OldCell w u → OldCell (suc w) (does (suc w) (puts s) u)
old_put w s u h = (λ t. old_cond (suc w) (same_side t s) _ _ (omega arith) (old_suc w (u.held t) (h.0 t)), omega arith)

old_quiet : (w k : ℕ) (d : Deed) (u : Stamps) → Quiet d → OldCell w u → OldCell w (does k d u)
old_quiet w k nothing u q h = h
old_quiet w k (gets s) u q h = h
old_quiet w k (puts s) u q h = absurd q
old_quiet w k (moves from to) u q h = (λ t. old_cond w (same_side t to) _ _ (h.0 from) (h.0 t), h.1)

pub past_effect : (layout : Layout) (x : Action) (σ : State) → Past σ → Past (effect layout x σ)
past_effect layout x σ p = go (write_or_quiet x σ)
  where
    cell : (c : ℕ) → OldCell σ.writes (σ.cell c)
    cell c = (λ s. p.held s c, p.latest c)

    from_cells : (τ : State) → ((c : ℕ) → OldCell τ.writes (τ.cell c)) → Past τ
    from_cells τ h = record { held = λ s c. (h c).0 s; latest = λ c. (h c).1 }

    later : (c : ℕ) → OldCell (suc σ.writes) (σ.cell c)
    later c = (λ s. old_suc σ.writes ((σ.cell c).held s) (p.held s c), omega (arith, p.latest c))

    go : (x.verb ≡ write) ⊎ ((same_verb x.verb write ≡ false) × Quiet (deed x σ)) → Past (effect layout x σ)
    go (inl q) = from_cells (effect layout x σ) (λ c. rw q (old_cell (suc σ.writes) (covers layout (as_verb write x) c) _ _ (old_put σ.writes x.side (σ.cell c) (cell c)) (later c)))
    go (inr (e, q)) = from_cells (effect layout x σ) (λ c. rw e (old_cell σ.writes (covers layout x c) _ _ (old_quiet σ.writes _ (deed x σ) (σ.cell c) q (cell c)) (cell c)))

-- at every moment of a run, and of a carried-on run
pub past : (plan : Plan) {cs : List Bool} {k : Config} → Run carried_on plan cs k → Past k.state
past plan h = along carried_on plan (λ σ l. Past σ) (past_start plan.layout) (λ r x σ l u. past_effect plan.layout x σ) h

pub fresh : ClaimFresh
fresh plan cs k h s c e = go ((k.state.cell c).held s) ((past plan h).held s c) e
  where
    go : (x : Stamp) → Old k.state.writes x → x ≢ at (suc k.state.writes)
    go never o q = let z : ◌≡◌ {A = ℕ} 0 1 = cc in omega arith
    go (at j) o q = let z : j ≡ suc k.state.writes = cc in omega arith

-- the count of writes and `latest` are those of the history
pub record Tracked (layout : Layout) (σ : State) (l : List Event) : Type 0 where
  pub writes : σ.writes ≡ (tally layout l).writes
  pub latest : (c : ℕ) → (σ.cell c).latest ≡ latest_write layout l c

-- what puts no stamp leaves the latest one, and counts as no write
quiet_latest : (k : ℕ) (d : Deed) (u : Stamps) → Quiet d → (does k d u).latest ≡ u.latest
quiet_latest k nothing u q = refl
quiet_latest k (gets s) u q = refl
quiet_latest k (puts s) u q = absurd q
quiet_latest k (moves from to) u q = refl

quiet_writes : (d : Deed) (n : ℕ) (t : Tally) → Quiet d → (counted d n t).writes ≡ t.writes
quiet_writes nothing n t q = refl
quiet_writes (gets s) n t q = refl
quiet_writes (puts s) n t q = absurd q
quiet_writes (moves from to) n t q = refl

cond_latest : (b : Bool) (u v : Stamps) → (cond b u v).latest ≡ cond b u.latest v.latest
cond_latest true u v = refl
cond_latest false u v = refl

cond_same : (b : Bool) (j : ℕ) → cond b j j ≡ j
cond_same true j = refl
cond_same false j = refl

tracked_effect : (layout : Layout) (r : ℕ) (x : Action) (σ : State) (l : List Event) → Tracked layout σ l → Tracked layout (effect layout x σ) (event r x σ ∷ l)
tracked_effect layout r x σ l t = go (write_or_quiet x σ)
  where
    go : (x.verb ≡ write) ⊎ ((same_verb x.verb write ≡ false) × Quiet (deed x σ)) → Tracked layout (effect layout x σ) (event r x σ ∷ l)
    go (inl q) = record {
      writes = rw q (ap suc t.writes);
      latest = λ c. rw q (cond_latest (covers layout (as_verb write x) c) _ _ ∙ rw (t.writes, t.latest c));
    }
    go (inr (e, q)) = record {
      writes = rw e (t.writes ∙ sym (quiet_writes (deed x σ) _ _ q));
      latest = λ c. rw e (cond_latest (covers layout x c) _ _ ∙ (rw (quiet_latest (suc σ.writes) (deed x σ) (σ.cell c) q) (cond_same (covers layout x c) _ ∙ t.latest c)));
    }

pub tracked : (plan : Plan) {cs : List Bool} {k : Config} → Run carried_on plan cs k → Tracked plan.layout k.state k.history
tracked plan h = along carried_on plan (Tracked plan.layout) (record { writes = refl; latest = λ c. refl }) (λ r x σ l u. tracked_effect plan.layout r x σ l) h

pub latest_tracked : ClaimLatest
latest_tracked plan cs k h = (tracked plan h).latest
