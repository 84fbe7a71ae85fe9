-- One cell that is not scratch through the stages of a run: a side with a set flag is current or about to be written, there is one,
-- and what its pass declares of its array holds.
use Prim.Native.Nat.{ℕ, suc, ◌<◌}
use mathlib.Core.Path.{◌≡◌, refl, sym, ◌∙◌}
use mathlib.Core.Logic.{◌⊎◌, inl, inr}
use mathlib.Core.List.{List, [], ◌∷◌}
use mathlib.Core.Bool.{Bool, true, false, cond, and-false, true≢false, false≢true}
use lib.Dec.{eqb}
use borrow.Author.Tests.{eqb-true, eq-eqb}
use Rattle.model.specs.Lists.{any}
use Rattle.model.specs.Sides.{Side, host, card, other, same_side, Stamp, at, Layout, cell_count, scratch_cell}
use Rattle.model.specs.Records.{Verb, read, write, copy, need, mark, Action, whole_of, covers}
use Rattle.model.specs.Effects.{Stamps, Flags, State, start, Deed, nothing, comes_to, does, effect}
use Rattle.model.specs.Blocks.{Block, act}
use Rattle.model.specs.Judging.{Mode, R, W, RW, R_or_RW, W_or_RW, Declaration, Pass, DeclaredPlan, pass_of, permits, always_writes, Accepts}
use Rattle.model.specs.Inner.Declared.{declares}
use Rattle.model.specs.Inner.Holders.{array_of}
use Rattle.model.proofs.Needs.{flag_set, flag_clear}
use Rattle.model.proofs.Numbering.{own_span, in_own, scratch_own, covers_array, covers_whole}
use Rattle.model.proofs.Booleans.{false_of, eqb_swap, is_same, is_true, is_other, same_or_other}
use Rattle.model.proofs.Stamps.{as_verb}
use Rattle.model.proofs.Written.{always_written}
use Rattle.model.proofs.Demand.Blocks.{always_branch, always_loop, always_turn}
use Rattle.model.proofs.Demand.Declarations.{is_of, declares_any, barred, once_first}
use Rattle.model.proofs.Demand.Stages.{declaration, Stage, pass_at, ahead, body_left, Progress, Stages, begins, calls, enters, needs, marks, needs_first, marks_then, acts, branches, loops, turns, branches0, loops0, turns0, Judged, judged, permitted_now}

-- the copies and the latest stamp of one cell, and the flags of its array
pub record CellState : Type 0 where
  pub held : Side → Stamp
  pub latest : ℕ
  pub flag : Side → Bool

abbrev pub Current : CellState → Side → Type 0
Current v s = v.held s ≡ at v.latest

abbrev FlagsCurrent : CellState → Type 0
FlagsCurrent v = (t : Side) → v.flag t ≡ true → Current v t

-- of a cell of array a, in a pass that declares ds. `pending` says on which side every way through what is left of the pass writes the cell,
-- `undeclared` whether the pass has still to declare the array
pub record Coherent (ds : List Declaration) (a : ℕ) (pending : Side → Bool) (undeclared : Bool) (v : CellState) : Type 0 where
  pub flagged : (s : Side) × (v.flag s ≡ true)
  set_flags : (t : Side) → v.flag t ≡ true → Current v t ⊎ (pending t ≡ true)
  pub flags_current : undeclared ≡ true → FlagsCurrent v
  pub readable : undeclared ≡ false → (s : Side) → declares R_or_RW s a ds ≡ true → Current v s × (v.flag s ≡ true)
  writable : undeclared ≡ false → (s : Side) → declares W_or_RW s a ds ≡ true → v.flag (other s) ≡ false

with_pending : {ds : List Declaration} {a : ℕ} {f g : Side → Bool} {u : Bool} {v : CellState} →
    ((t : Side) → f t ≡ true → g t ≡ true) → Coherent ds a f u v → Coherent ds a g u v
with_pending {f = f} {g} {v = v} m k = record {
  flagged = k.flagged;
  set_flags = λ t e. go t (k.set_flags t e);
  flags_current = k.flags_current;
  readable = k.readable;
  writable = k.writable;
}
  where
    go : (t : Side) → Current v t ⊎ (f t ≡ true) → Current v t ⊎ (g t ≡ true)
    go t (inl e) = inl e
    go t (inr e) = inr (m t e)

-- where one flag is not set, the other one is
pub opposite : (s : Side) (v : CellState) → FlagsCurrent v → (t : Side) × (v.flag t ≡ true) → v.flag s ≡ false → Current v (other s)
opposite s v k (t, g) e = go (same_or_other s t)
  where
    go : (t ≡ s) ⊎ (t ≡ other s) → Current v (other s)
    go (inl q) = absurd (true≢false (sym (rw q at g) ∙ e))
    go (inr q) = k (other s) (rw q at g)

-- a need of the array that copies
abbrev after_need : Side → CellState → CellState
after_need s v = record { held = λ t. cond (same_side t s) (v.held (other s)) (v.held t); latest = v.latest; flag = λ t. true }

need_current : (s : Side) (v : CellState) → Current v (other s) → FlagsCurrent (after_need s v)
need_current s v e t f = go (same_or_other s t)
  where
    go : (t ≡ s) ⊎ (t ≡ other s) → Current (after_need s v) t
    go (inl q) = rw (q, is_same s) e
    go (inr q) = rw (q, is_other s) e

-- a write that covers the cell
abbrev after_write : Side → ℕ → CellState → CellState
after_write s k v = record { held = λ t. cond (same_side t s) (at k) (v.held t); latest = k; flag = v.flag }

write_coherent : {ds : List Declaration} {a : ℕ} {f g : Side → Bool} {v : CellState} (s : Side) (k : ℕ) →
    declares W_or_RW s a ds ≡ true → Coherent ds a f false v → Coherent ds a g false (after_write s k v)
write_coherent {v = v} s k e c = record {
  flagged = c.flagged;
  set_flags = λ t f. inl (if_flagged t f (same_or_other s t));
  flags_current = λ u. absurd (false≢true u);
  readable = λ u t d. let f = (c.readable u t d).1 in (if_flagged t f (same_or_other s t), f);
  writable = c.writable;
}
  where
    on_side : Current (after_write s k v) s
    on_side = rw (is_same s)

    if_flagged : (t : Side) → v.flag t ≡ true → (t ≡ s) ⊎ (t ≡ other s) → Current (after_write s k v) t
    if_flagged t f (inl q) = rw q on_side
    if_flagged t f (inr q) = absurd (true≢false (sym (rw q at f) ∙ c.writable refl s e))

-- after a need of the array on side s
record Needed (v : CellState) (s : Side) : Type 0 where
  flags_current : FlagsCurrent v
  flag_set : v.flag s ≡ true

module _ (layout : Layout) (c : ℕ) where
  abbrev own : ℕ
  own = array_of layout c

  abbrev pub at_cell : State → CellState
  at_cell σ = record { held = λ t. (σ.cell c).held t; latest = (σ.cell c).latest; flag = λ t. (σ.flags own).flag t }

  pub own_or_other : (a : ℕ) → (array_of layout c ≡ a) ⊎ (eqb (array_of layout c) a ≡ false)
  own_or_other a = go (eqb own a) refl
    where
      go : (b : Bool) → eqb own a ≡ b → (own ≡ a) ⊎ (eqb own a ≡ false)
      go true e = inl (eqb-true own a e)
      go false e = inr e

  -- a cell that is as it was, whatever the tests say
  unmoved : (b z : Bool) (u : Stamps) (f : Flags) →
      ◌≡◌ {A = CellState} (record { held = (cond b u u).held; latest = (cond b u u).latest; flag = (cond z f f).flag }) (record { held = u.held; latest = u.latest; flag = f.flag })
  unmoved true true u f = refl
  unmoved true false u f = refl
  unmoved false true u f = refl
  unmoved false false u f = refl

  -- a record of another array
  pub not_covered : (x : Action) → eqb own x.name ≡ false → covers layout x c ≡ false
  not_covered x q = false_of (covers layout x c) λ e. true≢false (sym (eq-eqb own x.name (covers_array layout x c e)) ∙ q)

  other_same : (x : Action) (σ : State) → eqb own x.name ≡ false → at_cell (effect layout x σ) ≡ at_cell σ
  other_same x σ q = rw (not_covered x q, q)

  read_same : (x : Action) (σ : State) → at_cell (effect layout (as_verb read x) σ) ≡ at_cell σ
  read_same x σ = unmoved (covers layout (as_verb read x) c) (eqb own x.name) (σ.cell c) (σ.flags own)

  write_own : (x : Action) (σ : State) → covers layout (as_verb write x) c ≡ true →
      at_cell (effect layout (as_verb write x) σ) ≡ after_write x.side (suc σ.writes) (at_cell σ)
  write_own x σ e = rw e (go (eqb own x.name))
    where
      go : (z : Bool) → ◌≡◌ {A = CellState}
          (record { held = λ t. cond (same_side t x.side) (at (suc σ.writes)) ((σ.cell c).held t); latest = suc σ.writes; flag = (cond z (σ.flags own) (σ.flags own)).flag })
          (after_write x.side (suc σ.writes) (at_cell σ))
      go true = refl
      go false = refl

  write_other : (x : Action) (σ : State) → covers layout (as_verb write x) c ≡ false → at_cell (effect layout (as_verb write x) σ) ≡ at_cell σ
  write_other x σ e = rw e (unmoved false (eqb own x.name) (σ.cell c) (σ.flags own))

  -- a cell after a record, by what the tests say and what the record comes to
  at_effect : (x : Action) (σ : State) (b z : Bool) (r q : Deed × Flags) → covers layout x c ≡ b → eqb own x.name ≡ z →
      comes_to x.verb x.side (σ.flags x.name) ≡ r → comes_to x.verb x.side (σ.flags own) ≡ q →
      ◌≡◌ {A = CellState} (at_cell (effect layout x σ)) (record {
        held = (cond b (does (suc σ.writes) r.0 (σ.cell c)) (σ.cell c)).held;
        latest = (cond b (does (suc σ.writes) r.0 (σ.cell c)) (σ.cell c)).latest;
        flag = (cond z q.1 (σ.flags own)).flag;
      })
  at_effect x σ b z r q e f g h = λ i. record {
    held = (cond (e i) (does (suc σ.writes) (g i).0 (σ.cell c)) (σ.cell c)).held;
    latest = (cond (e i) (does (suc σ.writes) (g i).0 (σ.cell c)) (σ.cell c)).latest;
    flag = (cond (f i) (h i).1 (σ.flags own)).flag;
  }

  need_set : (s : Side) (a : ℕ) (σ : State) → (σ.flags a).flag s ≡ true → own ≡ a → at_cell (effect layout (whole_of need s a) σ) ≡ at_cell σ
  need_set s a σ e q =
      at_effect (whole_of need s a) σ (covers layout (whole_of need s a) c) (eqb own a) (nothing, σ.flags a) (nothing, σ.flags own) refl refl
      (flag_set s (σ.flags a) e) (flag_set s (σ.flags own) (rw q e))
      ∙ unmoved (covers layout (whole_of need s a) c) (eqb own a) (σ.cell c) (σ.flags own)

  need_own : c < cell_count layout → (s : Side) (a : ℕ) (σ : State) → own ≡ a → (σ.flags a).flag s ≡ false → at_cell (effect layout (whole_of need s a) σ) ≡ after_need s (at_cell σ)
  need_own i s a σ q e =
      at_effect (whole_of need s a) σ true true _ _ (covers_whole layout (whole_of need s a) c refl ∙ (in_own layout c i a ∙ eq-eqb own a q)) (eq-eqb own a q)
      (flag_clear s (σ.flags a) e) (flag_clear s (σ.flags own) (rw q e))

  marked : (s : Side) (a : ℕ) (σ : State) (t : Side) → Current (at_cell σ) t → Current (at_cell (effect layout (whole_of mark s a) σ)) t
  marked s a σ t e = go (covers layout (whole_of mark s a) c)
    where
      go : (b : Bool) → (cond b (σ.cell c) (σ.cell c)).held t ≡ at (cond b (σ.cell c) (σ.cell c)).latest
      go true = e
      go false = e

  -- in pass p, with its declarations ds still to make and its block b left
  abbrev pub CoherentIn : Pass → Block Action → List Declaration → State → Type 0
  CoherentIn p b ds σ = Coherent p.declarations own (λ t. always_writes layout t c b) (any (is_of own) ds) (at_cell σ)

  -- a declaration of array a on side s, before the declarations ds
  module _ (p : Pass) (b : Block Action) (s : Side) (a : ℕ) (ds : List Declaration) where
    pub undeclared : (m : Mode) → array_of layout c ≡ a → any (is_of (array_of layout c)) (declaration m s a ∷ ds) ≡ true
    undeclared m q = rw (eq-eqb a own (sym q))

    -- of another array
    other_coherent : (m : Mode) (σ τ : State) → eqb own a ≡ false → at_cell τ ≡ at_cell σ → CoherentIn p b (declaration m s a ∷ ds) σ → CoherentIn p b ds τ
    other_coherent m σ τ e u k = rw u (rw (eqb_swap a own ∙ e) at k)

    -- of the cell's own array, once it is made
    made_coherent : (m : Mode) (σ : State) → own ≡ a → Judged layout p (declaration m s a ∷ ds) b →
        (at_cell σ).flag s ≡ true → ((t : Side) → (at_cell σ).flag t ≡ true → Current (at_cell σ) t ⊎ (always_writes layout t c b ≡ true)) →
        (R_or_RW m ≡ true → Current (at_cell σ) s) → (W_or_RW m ≡ true → (at_cell σ).flag (other s) ≡ false) → CoherentIn p b ds σ
    made_coherent m σ q j set f r w = record {
      flagged = (s, set);
      set_flags = f;
      flags_current = λ u. absurd (true≢false (sym u ∙ rw q (once_first (declaration m s a) ds j.once)));
      readable = λ u t e. let g = j.rules.0.sole R_or_RW t (rw q at e) in rw (← g.1) (r g.0, set);
      writable = λ u t e. let g = j.rules.0.sole W_or_RW t (rw q at e) in rw (← g.1) (w g.0);
    }

    needed : c < cell_count layout → (m : Mode) (σ : State) → CoherentIn p b (declaration m s a ∷ ds) σ → own ≡ a → Needed (at_cell (effect layout (whole_of need s a) σ)) s
    needed i m σ k q = go ((σ.flags a).flag s) refl
      where
        before : FlagsCurrent (at_cell σ)
        before = k.flags_current (undeclared m q)

        own_flag : (z : Bool) → (σ.flags a).flag s ≡ z → (σ.flags own).flag s ≡ z
        own_flag z e = rw q e

        go : (z : Bool) → (σ.flags a).flag s ≡ z → Needed (at_cell (effect layout (whole_of need s a) σ)) s
        go true e = rw (need_set s a σ e q) (record { flags_current = before; flag_set = own_flag true e })
        go false e = rw (need_own i s a σ q e)
            (record { flags_current = need_current s (at_cell σ) (opposite s (at_cell σ) before k.flagged (own_flag false e)); flag_set = refl })

    -- R
    need_coherent : c < cell_count layout → (σ : State) → Judged layout p (declaration R s a ∷ ds) b → CoherentIn p b (declaration R s a ∷ ds) σ →
        CoherentIn p b ds (effect layout (whole_of need s a) σ)
    need_coherent i σ j k = go (own_or_other a)
      where
        go : (own ≡ a) ⊎ (eqb own a ≡ false) → CoherentIn p b ds (effect layout (whole_of need s a) σ)
        go (inl q) =
            let g = needed i R σ k q in
            let now = g.flags_current s g.flag_set in
            made_coherent R (effect layout (whole_of need s a) σ) q j g.flag_set
            (λ t f. inl (g.flags_current t f)) (λ r. now) (λ w. absurd (false≢true w))
        go (inr e) = other_coherent R σ (effect layout (whole_of need s a) σ) e (other_same (whole_of need s a) σ e) k

    -- the need of an RW
    need_first_coherent : c < cell_count layout → (σ : State) → CoherentIn p b (declaration RW s a ∷ ds) σ → CoherentIn p b (declaration RW s a ∷ ds) (effect layout (whole_of need s a) σ)
    need_first_coherent i σ k = go (own_or_other a)
      where
        go : (own ≡ a) ⊎ (eqb own a ≡ false) → CoherentIn p b (declaration RW s a ∷ ds) (effect layout (whole_of need s a) σ)
        go (inl q) =
            let u = undeclared RW q in
            let g = needed i RW σ k q in
            record {
              flagged = (s, g.flag_set);
              set_flags = λ t f. inl (g.flags_current t f);
              flags_current = λ e. g.flags_current;
              readable = λ e. absurd (true≢false (sym u ∙ e));
              writable = λ e. absurd (true≢false (sym u ∙ e));
            }
        go (inr e) = rw (other_same (whole_of need s a) σ e) k

    -- W, or the mark of an RW
    mark_coherent : (m : Mode) (σ : State) → Judged layout p (declaration m s a ∷ ds) b →
        (own ≡ a → Current (at_cell σ) s ⊎ (always_writes layout s c b ≡ true)) → (own ≡ a → R_or_RW m ≡ true → Current (at_cell σ) s) →
        CoherentIn p b (declaration m s a ∷ ds) σ → CoherentIn p b ds (effect layout (whole_of mark s a) σ)
    mark_coherent m σ j on_side r k = go (own_or_other a)
      where
        flags : own ≡ a → (t : Side) → (at_cell (effect layout (whole_of mark s a) σ)).flag t ≡ same_side t s
        flags q t = rw (eq-eqb own a q)

        now : (t : Side) → Current (at_cell σ) t ⊎ (always_writes layout t c b ≡ true) → Current (at_cell (effect layout (whole_of mark s a) σ)) t ⊎ (always_writes layout t c b ≡ true)
        now t (inl e) = inl (marked s a σ t e)
        now t (inr e) = inr e

        if_flagged : own ≡ a → (t : Side) → same_side t s ≡ true → Current (at_cell (effect layout (whole_of mark s a) σ)) t ⊎ (always_writes layout t c b ≡ true)
        if_flagged q t e = now t (rw (is_true t s e) (on_side q))

        go : (own ≡ a) ⊎ (eqb own a ≡ false) → CoherentIn p b ds (effect layout (whole_of mark s a) σ)
        go (inl q) = made_coherent m (effect layout (whole_of mark s a) σ) q j (flags q s ∙ is_same s)
            (λ t f. if_flagged q t (sym (flags q t) ∙ f)) (λ g. marked s a σ s (r q g)) (λ w. flags q (other s) ∙ is_other s)
        go (inr e) = other_coherent m σ (effect layout (whole_of mark s a) σ) e (other_same (whole_of mark s a) σ e) k

  act_coherent : (p : Pass) (r : ℕ) (b : Block Action) (x : Action) (σ : State) → permits p.declarations x ≡ true → CoherentIn p (act r x b) [] σ →
      CoherentIn p b [] (effect layout x σ)
  act_coherent p r b x σ e k = go x.verb e k
    where
      written : (z : Bool) → covers layout (as_verb write x) c ≡ z → declares W_or_RW x.side x.name p.declarations ≡ true →
          CoherentIn p (act r (as_verb write x) b) [] σ → CoherentIn p b [] (effect layout (as_verb write x) σ)
      written true w e k = rw (write_own x σ w) (write_coherent x.side (suc σ.writes) (rw (covers_array layout (as_verb write x) c w) e) k)
      written false w e k = rw (write_other x σ w) (with_pending (λ t f. rw (w, and-false) at f) k)

      go : (v : Verb) → permits p.declarations (as_verb v x) ≡ true → CoherentIn p (act r (as_verb v x) b) [] σ → CoherentIn p b [] (effect layout (as_verb v x) σ)
      go read e k = rw (read_same x σ) k
      go write e k = written (covers layout (as_verb write x) c) refl e k
      go copy e k = absurd (false≢true (sym (barred x.side x.name p.declarations) ∙ e))
      go need e k = absurd (false≢true (sym (barred x.side x.name p.declarations) ∙ e))
      go mark e k = absurd (false≢true (sym (barred x.side x.name p.declarations) ∙ e))

  -- from the end of one pass to the call of the next: nothing is pending
  call_coherent : (p q : Pass) (σ : State) → CoherentIn p Block.done [] σ → CoherentIn q q.body q.declarations σ
  call_coherent p q σ k = record {
    flagged = k.flagged;
    set_flags = λ t f. inl (now t (k.set_flags t f));
    flags_current = λ u t f. now t (k.set_flags t f);
    readable = λ u s e. absurd (true≢false (sym (declares_any R_or_RW s own q.declarations e) ∙ u));
    writable = λ u s e. absurd (true≢false (sym (declares_any W_or_RW s own q.declarations e) ∙ u));
  }
    where
      now : (t : Side) → Current (at_cell σ) t ⊎ (false ≡ true) → Current (at_cell σ) t
      now t (inl e) = e
      now t (inr e) = absurd (false≢true e)

  -- a cell that is not scratch starts current on the host, and its array flagged there
  module _ (inside : c < cell_count layout) (filled : scratch_cell layout c ≡ false) where
    start_flag : (at_cell (start layout)).flag host ≡ true
    start_flag = rw (← scratch_own layout c inside, filled)

    start_current : FlagsCurrent (at_cell (start layout))
    start_current host e = rw filled
    start_current card e = absurd (false≢true e)

module _ (plan : DeclaredPlan) (cs : List Bool) (ok : Accepts plan) (c : ℕ) (inside : c < cell_count plan.layout) (filled : scratch_cell plan.layout c ≡ false) where
  abbrev layout : Layout
  layout = plan.layout

  -- where W is declared, what the pass has not written is pending
  pending : {p : Pass} {s : Side} {a : ℕ} {ds : List Declaration} {b : Block Action} → Judged layout p (declaration W s a ∷ ds) b → array_of layout c ≡ a →
      always_writes layout s c p.body ≡ true
  pending {p} {s} j q = (always_written layout s c p.body).1 (j.rules.0.written refl c (rw q at (own_span layout c inside)))

  pub coherent : {k : Stage} {ch : List Bool} {n : Progress} → Stages plan cs k ch n →
      CoherentIn plan.layout c (pass_at k) (body_left k) (ahead k) n.state
  coherent begins = record {
    flagged = (host, start_flag layout c inside filled);
    set_flags = λ t f. inl (start_current layout c inside filled t f);
    flags_current = λ u. start_current layout c inside filled;
    readable = λ u s e. absurd (false≢true e);
    writable = λ u s e. absurd (false≢true e);
  }
  coherent (calls {p = p} {b} {n = n} h) = call_coherent layout c p (pass_of plan.passes b) n.state (coherent h)
  coherent (enters h) = coherent h
  coherent (needs {p = p} {s} {a} {ds} {n = n} h u) = need_coherent layout c p p.body s a ds inside n.state (judged plan cs ok h) (coherent h)
  coherent (marks {p = p} {s} {a} {ds} {n = n} h) =
      let j = judged plan cs ok h in
      mark_coherent layout c p p.body s a ds W n.state j (λ q. inr (pending j q)) (λ q r. absurd (false≢true r)) (coherent h)
  coherent (needs_first {p = p} {s} {a} {ds} {n = n} h u) = need_first_coherent layout c p p.body s a ds inside n.state (coherent h)
  coherent (marks_then (needs_first {p = p} {s} {a} {ds} {n = n} h u)) =
      let k = coherent h in
      let σ = effect layout (whole_of need s a) n.state in
      let now : array_of layout c ≡ a → Current (at_cell layout c σ) s = λ q.
      let g = needed layout c p p.body s a ds inside RW n.state k q in
      g.flags_current s g.flag_set in
      mark_coherent layout c p p.body s a ds RW σ (judged plan cs ok h) (λ q. inl (now q)) (λ q r. now q)
      (need_first_coherent layout c p p.body s a ds inside n.state k)
  coherent (acts {p = p} {r} {x} {b} {n = n} h) = act_coherent layout c p r b x n.state (permitted_now x (judged plan cs ok h)) (coherent h)
  coherent (branches {r = r} {x} {y} {b} {c = z} h) = with_pending (λ t e. always_branch layout t c r z x y b e) (coherent h)
  coherent (loops {r = r} {x} {b} {c = z} h) = with_pending (λ t e. always_loop layout t c r z x b e) (coherent h)
  coherent (turns {r = r} {m} {x} {b} h) = with_pending (λ t e. always_turn layout t c r m x b e) (coherent h)
  coherent (branches0 h) = coherent h
  coherent (loops0 h) = coherent h
  coherent (turns0 h) = coherent h
