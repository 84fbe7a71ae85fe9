-- The intervals of one array through the stages of a run: its flags, and the needs that copy. Scratch is not written before its first interval.
use Prim.Native.Nat.{ℕ, suc, ◌<◌}
use mathlib.Core.Path.{◌≡◌, refl, ap, sym, ◌∙◌}
use mathlib.Core.List.{List, [], ◌∷◌}
use mathlib.Core.Bool.{Bool, true, false, cond, not, ◌&&◌, ◌||◌, and-true, and-false, or-true, or-false, true≢false, false≢true}
use mathlib.Core.Option.{Option, none, some}
use lib.Dec.{eqb}
use borrow.Author.Tests.{eqb-true}
use Rattle.model.specs.Sides.{Side, host, other, same_side, never, Layout, cell_count, span_of, in_span, is_scratch, scratch_cell}
use Rattle.model.specs.Records.{Verb, read, write, copy, need, mark, Action, whole_of, covers}
use Rattle.model.specs.Effects.{Stamps, Flags, State, start, Deed, comes_to, needs as needs-cell, does, met, effect}
use Rattle.model.specs.Runs.{lowest_unmet}
use Rattle.model.specs.Judging.{Mode, R, W, RW, R_or_RW, W_or_RW, Declaration, Pass, DeclaredPlan, pass_of, permits, Accepts}
use Rattle.model.specs.Inner.Declared.{no_pass, declaration, declares}
use Rattle.model.proofs.Needs.{flag_set, flag_clear}
use Rattle.model.proofs.Booleans.{eqb_swap, is_not}
use Rattle.model.proofs.Numbering.{span_own, span_within, scratch_own, covers_array, covers_whole}
use Rattle.model.proofs.Stamps.{as_verb}
use Rattle.model.proofs.Unmet.{all_met}
use Rattle.model.proofs.Demand.Declarations.{barred}
use Rattle.model.proofs.Demand.Stages.{Did, Stage, in_body, declaring, marking, Progress, Stages, begins, calls, enters, needs, marks, needs_first, marks_then, acts, branches, loops, turns, branches0, loops0, turns0, judged, permitted_now}

-- an interval of an array so far: the side of the declared write that begins it, and whether R has been declared on the opposite side since
pub record Interval : Type 0 where
  pub writer : Side
  pub shared : Bool

abbrev pub interval : Side → Bool → Interval
interval w b = record { writer = w; shared = b }

-- after one more declaration of the array; `none` before the first interval, which for scratch begins with a mark
abbrev pub extended : Mode → Side → Option Interval → Option Interval
extended R s none = none
extended R s (some i) = some (interval i.writer (same_side s (other i.writer) || i.shared))
extended W s o = some (interval s false)
extended RW s o = some (interval s false)

-- the array's flags then
abbrev pub flags : Interval → Side → Bool
flags i t = same_side t i.writer || i.shared

module _ (a : ℕ) where
  -- whether a declaration is one of the array
  abbrev pub own : Did → Bool
  own d = eqb d.declaration.array a

  -- the interval after one more declaration
  abbrev pub next : Option Interval → Did → Option Interval
  next o d = cond (own d) (extended d.declaration.mode d.declaration.side o) o

-- a cell of which no copy was ever written: a need of its array does nothing if it is executed
module _ (layout : Layout) (s : Side) (b c : ℕ) (σ : State) (blank : (t : Side) → (σ.cell c).held t ≡ never) (u : lowest_unmet layout (whole_of need s b) σ ≡ none) where
  blank_flag : covers layout (whole_of need s b) c ≡ true → (σ.flags b).flag s ≡ true
  blank_flag w = go ((σ.flags b).flag s) refl
    where
      inside : c < cell_count layout
      inside = span_within layout b c (sym (covers_whole layout (whole_of need s b) c refl) ∙ w)

      unmet : (σ.flags b).flag s ≡ false → met layout (whole_of need s b) σ c ≡ false
      unmet e = ap (λ (r : Deed × Flags). not (covers layout (whole_of need s b) c) || needs-cell r.0 (σ.cell c)) (flag_clear s (σ.flags b) e) ∙ rw (w, blank (other s))

      go : (z : Bool) → (σ.flags b).flag s ≡ z → (σ.flags b).flag s ≡ true
      go true e = e
      go false e = absurd (true≢false (sym (all_met layout (whole_of need s b) σ u c inside) ∙ unmet e))

  need_blank : (t : Side) → ((effect layout (whole_of need s b) σ).cell c).held t ≡ never
  need_blank t = go (covers layout (whole_of need s b) c) refl
    where
      go : (z : Bool) → covers layout (whole_of need s b) c ≡ z → ((effect layout (whole_of need s b) σ).cell c).held t ≡ never
      go true w = rw w (ap (λ (r : Deed × Flags). (does (suc σ.writes) r.0 (σ.cell c)).held t) (flag_set s (σ.flags b) (blank_flag w)) ∙ blank t)
      go false w = rw w (blank t)

module _ (layout : Layout) (a : ℕ) where
  -- the interval that declarations end in, the last one first
  abbrev pub interval_of : List Did → Option Interval
  interval_of [] = cond (is_scratch layout a) none (some (interval host false))
  interval_of (d ∷ l) = next a (interval_of l) d

  -- the need of a declaration of the array, if it has one, copied exactly if its flag was not set; before the first interval it did not, if
  -- the array has a cell
  abbrev pub ExactIn : Option Interval → Did → Type 0
  ExactIn none d = own a d ≡ true → (c : ℕ) → in_span (span_of layout a) c ≡ true → d.copied ≡ false
  ExactIn (some i) d = own a d ≡ true → d.copied ≡ (R_or_RW d.declaration.mode && not (flags i d.declaration.side))

  abbrev pub Exact : List Did → Type 0
  Exact [] = Unit {0}
  Exact (d ∷ l) = ExactIn (interval_of l) d × Exact l

  -- no cell of the array was ever written
  abbrev Blank : State → Type 0
  Blank σ = (c : ℕ) → in_span (span_of layout a) c ≡ true → (t : Side) → (σ.cell c).held t ≡ never

  -- so it is before the first interval; and then the flags are those of the interval
  abbrev Flagged : State → Option Interval → Type 0
  Flagged σ none = Blank σ
  Flagged σ (some i) = (t : Side) → (σ.flags a).flag t ≡ flags i t

  -- before the first interval a pass has still to make its declared write of the array
  abbrev Waiting : Pass → List Declaration → Option Interval → Type 0
  Waiting p ds none = (s : Side) → declares W_or_RW s a p.declarations ≡ true → declares W_or_RW s a ds ≡ true
  Waiting p ds (some i) = Unit {0}

  waiting_next : (p : Pass) (m : Mode) (s : Side) (b : ℕ) (ds : List Declaration) (o : Option Interval) → Waiting p (declaration m s b ∷ ds) o →
      Waiting p ds (cond (eqb b a) (extended m s o) o)
  waiting_next p m s b ds o w = go m o (eqb b a) refl w
    where
      passed : (t : Side) → eqb b a ≡ false → ((same_side s t && eqb b a) || declares W_or_RW t a ds) ≡ true → declares W_or_RW t a ds ≡ true
      passed t q e = rw (q, and-false (same_side s t)) at e

      go : (m : Mode) (o : Option Interval) (z : Bool) → eqb b a ≡ z → Waiting p (declaration m s b ∷ ds) o → Waiting p ds (cond z (extended m s o) o)
      go R none true q w = w
      go R none false q w = w
      go R (some i) true q w = tt
      go R (some i) false q w = tt
      go W none true q w = tt
      go W none false q w = λ t e. passed t q (w t e)
      go W (some i) true q w = tt
      go W (some i) false q w = tt
      go RW none true q w = tt
      go RW none false q w = λ t e. passed t q (w t e)
      go RW (some i) true q w = tt
      go RW (some i) false q w = tt

  -- at a call
  waiting_first : (p : Pass) (o : Option Interval) → Waiting p p.declarations o
  waiting_first p none = λ s e. e
  waiting_first p (some i) = tt

  need_flags : (s : Side) (b : ℕ) (σ : State) (i : Interval) → Flagged σ (some i) →
      Flagged (effect layout (whole_of need s b) σ) (cond (eqb b a) (extended R s (some i)) (some i))
  need_flags s b σ i f = go (eqb b a) refl ((σ.flags b).flag s) refl
    where
      set : (x y z : Bool) → (x || y) ≡ true → (z || y) ≡ (z || (not x || y))
      set true y z e = refl
      set false y z e = rw e

      clear : (x y z : Bool) → (x || y) ≡ false → true ≡ (z || (not x || y))
      clear true y z e = absurd (true≢false e)
      clear false y z e = sym (or-true z)

      flags_after : (t : Side) (g : Bool) → (σ.flags b).flag s ≡ g → eqb b a ≡ true → ((effect layout (whole_of need s b) σ).flags a).flag t ≡ cond g ((σ.flags a).flag t) true
      flags_after t g e q = rw (eqb_swap a b ∙ q, ← eqb-true b a q) (by_flag g e)
        where
          by_flag : (g : Bool) → (σ.flags b).flag s ≡ g → (comes_to need s (σ.flags b)).1.flag t ≡ cond g ((σ.flags b).flag t) true
          by_flag true e = ap (λ (r : Deed × Flags). r.1.flag t) (flag_set s (σ.flags b) e)
          by_flag false e = ap (λ (r : Deed × Flags). r.1.flag t) (flag_clear s (σ.flags b) e)

      go : (o : Bool) → eqb b a ≡ o → (g : Bool) → (σ.flags b).flag s ≡ g → Flagged (effect layout (whole_of need s b) σ) (cond o (extended R s (some i)) (some i))
      go true q true e = λ t. flags_after t true e q ∙ rw (f t, is_not s i.writer) (set (same_side s i.writer) i.shared (same_side t i.writer) (sym (f s) ∙ (rw (eqb-true b a q) at e)))
      go true q false e = λ t. flags_after t false e q ∙ rw (is_not s i.writer) (clear (same_side s i.writer) i.shared (same_side t i.writer) (sym (f s) ∙ (rw (eqb-true b a q) at e)))
      go false q g e = λ t. rw (eqb_swap a b, q) (f t)

  need_flagged : (s : Side) (b : ℕ) (σ : State) (o : Option Interval) → lowest_unmet layout (whole_of need s b) σ ≡ none → Flagged σ o →
      Flagged (effect layout (whole_of need s b) σ) (cond (eqb b a) (extended R s o) o)
  need_flagged s b σ none u f = go (eqb b a)
    where
      go : (z : Bool) → Flagged (effect layout (whole_of need s b) σ) (cond z none none)
      go true = λ c i. need_blank layout s b c σ (f c i) u
      go false = λ c i. need_blank layout s b c σ (f c i) u
  need_flagged s b σ (some i) u f = need_flags s b σ i f

  -- a record that writes no cell of the array and leaves its flags
  kept_flagged : (σ τ : State) (o : Option Interval) → ((c : ℕ) (t : Side) → (σ.cell c).held t ≡ never → in_span (span_of layout a) c ≡ true → (τ.cell c).held t ≡ never) →
      ((t : Side) → (τ.flags a).flag t ≡ (σ.flags a).flag t) → Flagged σ o → Flagged τ o
  kept_flagged σ τ none h g f = λ c i t. h c t (f c i t) i
  kept_flagged σ τ (some j) h g f = λ t. g t ∙ f t

  held_same : (b : Bool) (u : Stamps) (t : Side) → u.held t ≡ never → (cond b u u).held t ≡ never
  held_same true u t e = e
  held_same false u t e = e

  mark_flagged : (s : Side) (b : ℕ) (σ : State) (o : Option Interval) → (eqb b a ≡ false → Flagged σ o) →
      Flagged (effect layout (whole_of mark s b) σ) (cond (eqb b a) (some (interval s false)) o)
  mark_flagged s b σ o f = go (eqb b a) refl
    where
      go : (z : Bool) → eqb b a ≡ z → Flagged (effect layout (whole_of mark s b) σ) (cond z (some (interval s false)) o)
      go true q = λ t. rw (eqb_swap a b, q, or-false (same_side t s))
      go false q = kept_flagged σ (effect layout (whole_of mark s b) σ) o (λ c t e i. held_same (covers layout (whole_of mark s b) c) (σ.cell c) t e) (λ t. rw (eqb_swap a b, q)) (f q)

  -- in pass p, with its declarations ds still to make
  pub record Counted (p : Pass) (ds : List Declaration) (σ : State) (made : List Did) : Type 0 where
    flagged : Flagged σ (interval_of made)
    waiting : Waiting p ds (interval_of made)
    pub exact : Exact made

  -- between the need and the mark of an RW nothing is said
  abbrev pub CountedAt : Stage → Progress → Type 0
  CountedAt (in_body p b t) n = Counted p [] n.state n.made
  CountedAt (declaring p ds t) n = Counted p ds n.state n.made
  CountedAt (marking p s b m ds t) n = Unit {0}

  act_flagged : (p : Pass) (x : Action) (σ : State) (o : Option Interval) → permits p.declarations x ≡ true → Waiting p [] o → Flagged σ o → Flagged (effect layout x σ) o
  act_flagged p x σ o e w f = go x.verb e
    where
      flags_same : (v : Verb) → ((f : Flags) → (comes_to v x.side f).1 ≡ f) → (t : Side) → ((effect layout (as_verb v x) σ).flags a).flag t ≡ (σ.flags a).flag t
      flags_same v h t = same (eqb a x.name)
        where
          same : (b : Bool) → (cond b (comes_to v x.side (σ.flags a)).1 (σ.flags a)).flag t ≡ (σ.flags a).flag t
          same true = ap (λ (f : Flags). f.flag t) (h (σ.flags a))
          same false = refl

      -- before the first interval no pass writes the array
      written : (o : Option Interval) → declares W_or_RW x.side x.name p.declarations ≡ true → Waiting p [] o → Flagged σ o → Flagged (effect layout (as_verb write x) σ) o
      written none e w f = λ c i t. at_cell c i t (covers layout (as_verb write x) c) refl
        where
          at_cell : (c : ℕ) → in_span (span_of layout a) c ≡ true → (t : Side) (z : Bool) → covers layout (as_verb write x) c ≡ z → ((effect layout (as_verb write x) σ).cell c).held t ≡ never
          at_cell c i t true q =
              let same : x.name ≡ a = sym (covers_array layout (as_verb write x) c q) ∙ span_own layout a c i in
              absurd (false≢true (w x.side (rw same at e)))
          at_cell c i t false q = rw q (f c i t)
      written (some i) e w f = λ t. flags_same write (λ g. refl) t ∙ f t

      go : (v : Verb) → permits p.declarations (as_verb v x) ≡ true → Flagged (effect layout (as_verb v x) σ) o
      go read e = kept_flagged σ (effect layout (as_verb read x) σ) o (λ c t q i. held_same (covers layout (as_verb read x) c) (σ.cell c) t q) (flags_same read (λ g. refl)) f
      go write e = written o e w f
      go copy e = absurd (false≢true (sym (barred x.side x.name p.declarations) ∙ e))
      go need e = absurd (false≢true (sym (barred x.side x.name p.declarations) ∙ e))
      go mark e = absurd (false≢true (sym (barred x.side x.name p.declarations) ∙ e))

  -- the need of an R or RW
  need_exact : (m : Mode) (s : Side) (b : ℕ) (σ : State) (o : Option Interval) → R_or_RW m ≡ true → lowest_unmet layout (whole_of need s b) σ ≡ none → Flagged σ o →
      ExactIn o (record { declaration = declaration m s b; copied = not ((σ.flags b).flag s) })
  need_exact m s b σ none r u f = λ q c i.
      let own : in_span (span_of layout b) c ≡ true = rw (eqb-true b a q) i in
      ap not (blank_flag layout s b c σ (f c i) u (covers_whole layout (whole_of need s b) c refl ∙ own))
  need_exact m s b σ (some i) r u f = λ q. rw (r, eqb-true b a q) (ap not (f s))

  mark_exact : (s : Side) (b : ℕ) (o : Option Interval) → ExactIn o (record { declaration = declaration W s b; copied = false })
  mark_exact s b none = λ q c i. refl
  mark_exact s b (some i) = λ q. refl

  start_flagged : Flagged (start layout) (cond (is_scratch layout a) none (some (interval host false)))
  start_flagged = go (is_scratch layout a) refl
    where
      go : (z : Bool) → is_scratch layout a ≡ z → Flagged (start layout) (cond z none (some (interval host false)))
      go true q = λ c i t.
          let scratch : scratch_cell layout c ≡ true = scratch_own layout c (span_within layout a c i) ∙ (ap (is_scratch layout) (span_own layout a c i) ∙ q) in
          rw (scratch, and-false (same_side t host))
      go false q = λ t. rw (q, and-true (same_side t host), or-false (same_side t host))

module _ (a : ℕ) (plan : DeclaredPlan) (cs : List Bool) (ok : Accepts plan) where
  abbrev layout : Layout
  layout = plan.layout

  pub counted : {k : Stage} {ch : List Bool} {n : Progress} → Stages plan cs k ch n → CountedAt layout a k n
  counted begins = record { flagged = start_flagged layout a; waiting = waiting_first layout a no_pass (interval_of layout a []); exact = tt }
  counted (calls {b = b} {n = n} h) = let k = counted h in record {
    flagged = k.flagged;
    waiting = waiting_first layout a (pass_of plan.passes b) (interval_of layout a n.made);
    exact = k.exact;
  }
  counted (enters h) = counted h
  counted (needs {p = p} {s = s} {a = b} {ds = ds} {n = n} h u) =
      let k = counted h in
      let o = interval_of layout a n.made in
      record {
        flagged = need_flagged layout a s b n.state o u k.flagged;
        waiting = waiting_next layout a p R s b ds o k.waiting;
        exact = (need_exact layout a R s b n.state o refl u k.flagged, k.exact);
      }
  counted (marks {p = p} {s = s} {a = b} {ds = ds} {n = n} h) =
      let k = counted h in
      let o = interval_of layout a n.made in
      record {
        flagged = mark_flagged layout a s b n.state o (λ q. k.flagged);
        waiting = waiting_next layout a p W s b ds o k.waiting;
        exact = (mark_exact layout a s b o, k.exact);
      }
  counted (needs_first h u) = tt
  counted (marks_then (needs_first {p = p} {s = s} {a = b} {ds = ds} {n = n} h u)) =
      let k = counted h in
      let o = interval_of layout a n.made in
      record {
        flagged = mark_flagged layout a s b (effect layout (whole_of need s b) n.state) o (λ q. rw q at (need_flagged layout a s b n.state o u k.flagged));
        waiting = waiting_next layout a p RW s b ds o k.waiting;
        exact = (need_exact layout a RW s b n.state o refl u k.flagged, k.exact);
      }
  counted (acts {p = p} {x = x} {n = n} h) = let k = counted h in record {
    flagged = act_flagged layout a p x n.state (interval_of layout a n.made) (permitted_now x (judged plan cs ok h)) k.waiting k.flagged;
    waiting = k.waiting;
    exact = k.exact;
  }
  counted (branches h) = counted h
  counted (loops h) = counted h
  counted (turns h) = counted h
  counted (branches0 h) = counted h
  counted (loops0 h) = counted h
  counted (turns0 h) = counted h
