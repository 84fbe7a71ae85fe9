-- The moves of one array in each of its intervals.
use Prim.Native.Nat.{ℕ, suc}
use mathlib.Core.Path.{◌≡◌, refl, ap, ◌∙◌, subst}
use mathlib.Core.List.{List, [], ◌∷◌, ◌++◌, reverse_aux as onto}
use mathlib.Core.Bool.{Bool, true, false, cond, not, ◌&&◌, ◌||◌, and-true, and-false, true≢false, false≢true}
use mathlib.Core.Option.{Option, none, some}
use Rattle.model.specs.Lists.{any}
use Rattle.model.specs.Sides.{Side, host, other, same_side, Layout, span_of, in_span, is_scratch}
use Rattle.model.specs.Blocks.{Block}
use Rattle.model.specs.Judging.{Mode, R, W, RW, R_or_RW, W_or_RW, Pass, DeclaredPlan, Accepts}
use Rattle.model.proofs.Booleans.{is_true, other_side}
use Rattle.model.proofs.Demand.Stages.{Did, in_body, Progress, Stages}
use Rattle.model.proofs.Demand.Intervals.{Interval, interval, extended, flags, own, next, interval_of, ExactIn, Exact, counted}

module _ (a : ℕ) where
  -- a declared write of the array
  abbrev pub did_write : Did → Bool
  did_write d = own a d && W_or_RW d.declaration.mode

  -- R or RW of the array on side t
  abbrev pub did_read : Side → Did → Bool
  did_read t d = own a d && (R_or_RW d.declaration.mode && same_side d.declaration.side t)

  -- a copy of it to side t
  abbrev pub did_copy : Side → Did → Bool
  did_copy t d = own a d && (d.copied && same_side d.declaration.side t)

  -- how often it was copied there
  abbrev pub copies : Side → List Did → ℕ
  copies t [] = 0
  copies t (d ∷ l) = cond (did_copy t d) (suc (copies t l)) (copies t l)

  -- an interval in order
  abbrev pub interval_from : List Did → List Did
  interval_from [] = []
  interval_from (d ∷ l) = cond (did_write d) (d ∷ []) (d ∷ interval_from l)

  -- one copy to the opposite side if that reads, and no other
  abbrev pub CopiesOnce : Side → List Did → Type 0
  CopiesOnce w l = (t : Side) → copies t l ≡ cond (not (same_side t w) && any (did_read t) l) 1 0

module _ (layout : Layout) (a : ℕ) where
  -- the same of declarations in order, from an interval on
  abbrev ExactFrom : Option Interval → List Did → Type 0
  ExactFrom o [] = Unit {0}
  ExactFrom o (d ∷ l) = ExactIn layout a o d × ExactFrom (next a o d) l

  in_order : (l rest : List Did) → Exact layout a l → ExactFrom (interval_of layout a l) rest → ExactFrom (interval_of layout a []) (onto l rest)
  in_order [] rest x y = y
  in_order (d ∷ l) rest x y = in_order l (d ∷ rest) x.1 (x.0, y)

  -- what follows some of them
  record From (l : List Did) : Type 0 where
    reached : Option Interval
    exact : ExactFrom reached l

  following : (before l : List Did) (o : Option Interval) → ExactFrom o (before ++ l) → From l
  following [] l o x = record { reached = o; exact = x }
  following (d ∷ before) l o x = following before l (next a o d) x.1

  -- a declared write begins an interval on its side
  begun : (d : Did) (i : Option Interval) → did_write a d ≡ true → next a i d ≡ some (interval d.declaration.side false)
  begun d i e = go (own a d) d.declaration.mode e
    where
      go : (o : Bool) (m : Mode) → (o && W_or_RW m) ≡ true → cond o (extended m d.declaration.side i) i ≡ some (interval d.declaration.side false)
      go true R q = absurd (false≢true q)
      go true W q = refl
      go true RW q = refl
      go false m q = absurd (false≢true q)

  -- one more declaration, no declared write of the array
  extended_by_read : (o : Bool) (m : Mode) (s w : Side) (b : Bool) → (o && W_or_RW m) ≡ false →
      cond o (extended m s (some (interval w b))) (some (interval w b)) ≡ some (interval w (o && (R_or_RW m && same_side s (other w)) || b))
  extended_by_read true R s w b e = refl
  extended_by_read true W s w b e = absurd (true≢false e)
  extended_by_read true RW s w b e = absurd (true≢false e)
  extended_by_read false m s w b e = refl

  unbegun_by_read : (o : Bool) (m : Mode) (s : Side) → (o && W_or_RW m) ≡ false → cond o (extended m s none) none ≡ none
  unbegun_by_read true R s e = refl
  unbegun_by_read true W s e = absurd (true≢false e)
  unbegun_by_read true RW s e = absurd (true≢false e)
  unbegun_by_read false m s e = refl

  -- an array with a cell is not copied before its first interval
  none_before : (c : ℕ) → in_span (span_of layout a) c ≡ true → (t : Side) (l : List Did) → ExactFrom none l → copies a t (interval_from a l) ≡ 0
  none_before c i t [] x = refl
  none_before c i t (d ∷ l) x = go (did_write a d) refl (none_before c i t l)
    where
      still : did_copy a t d ≡ false
      still = by_own (own a d) (λ q. x.0 q c i)
        where
          by_own : (o : Bool) → (o ≡ true → d.copied ≡ false) → (o && (d.copied && same_side d.declaration.side t)) ≡ false
          by_own true h = rw (h refl)
          by_own false h = refl

      go : (z : Bool) → did_write a d ≡ z → (ExactFrom none l → copies a t (interval_from a l) ≡ 0) → copies a t (cond z (d ∷ []) (d ∷ interval_from a l)) ≡ 0
      go true e ih = rw still
      go false e ih = rw still (ih (subst (λ o. ExactFrom o l) (unbegun_by_read (own a d) d.declaration.mode d.declaration.side e) x.1))

  -- its array is copied to side t if it is the first to read there, and t is the opposite side
  copies_first : (d : Did) (w t : Side) (b : Bool) → ExactIn layout a (some (interval w b)) d → did_copy a t d ≡ ((not (same_side t w) && did_read a t d) && not b)
  copies_first d w t b x = go (own a d) x
    where
      s : Side
      s = d.declaration.side

      r : Bool
      r = R_or_RW d.declaration.mode

      first : (r o b : Bool) → ((r && not (o || b)) && true) ≡ ((not o && (r && true)) && not b)
      first false true b = refl
      first false false b = refl
      first true true b = refl
      first true false true = refl
      first true false false = refl

      by_side : (z : Bool) → same_side s t ≡ z → ((r && not (same_side s w || b)) && z) ≡ ((not (same_side t w) && (r && z)) && not b)
      by_side true e = rw (← is_true s t e) (first r (same_side s w) b)
      by_side false e = rw (and-false (r && not (same_side s w || b)), and-false r, and-false (not (same_side t w)))

      go : (o : Bool) → (o ≡ true → d.copied ≡ (r && not (flags (interval w b) s))) →
          (o && (d.copied && same_side s t)) ≡ ((not (same_side t w) && (o && (r && same_side s t))) && not b)
      go true g = rw (g refl) (by_side (same_side s t) refl)
      go false g = rw (and-false (not (same_side t w)))

  -- in an interval that a write on side w began, and in which the opposite side has read or has not
  counts : (w t : Side) (b : Bool) (l : List Did) → ExactFrom (some (interval w b)) l →
      copies a t (interval_from a l) ≡ cond ((not (same_side t w) && any (did_read a t) (interval_from a l)) && not b) 1 0
  counts w t b [] x = rw (and-false (not (same_side t w)))
  counts w t b (d ∷ l) x = go (did_write a d) refl (counts w t (did_read a (other w) d || b) l)
    where
      far : Bool
      far = not (same_side t w)

      last : (f r : Bool) → ◌≡◌ {A = ℕ} (cond ((f && r) && not b) 1 0) (cond ((f && (r || false)) && not b) 1 0)
      last true true = refl
      last true false = refl
      last false r = refl

      -- the declarations that read on the opposite side are those that read on side t, where that is the opposite side
      more : (f r q b m : Bool) (k : ℕ) → (f ≡ true → q ≡ r) → k ≡ cond ((f && m) && not (q || b)) 1 0 → cond ((f && r) && not b) (suc k) k ≡ cond ((f && (r || m)) && not b) 1 0
      more false r q b m k h e = e
      more true true true true m k h e = e ∙ rw (and-false m)
      more true true true false m k h e = ap suc (e ∙ rw (and-false m))
      more true true false b m k h e = absurd (false≢true (h refl))
      more true false true b m k h e = absurd (true≢false (h refl))
      more true false false b m k h e = e

      opposite : far ≡ true → did_read a (other w) d ≡ did_read a t d
      opposite e = ap (λ z. did_read a z d) (other_side t w e)

      go : (z : Bool) → did_write a d ≡ z →
          (ExactFrom (some (interval w (did_read a (other w) d || b))) l → copies a t (interval_from a l) ≡ cond ((far && any (did_read a t) (interval_from a l)) && not (did_read a (other w) d || b)) 1 0) →
          copies a t (cond z (d ∷ []) (d ∷ interval_from a l)) ≡ cond ((far && any (did_read a t) (cond z (d ∷ []) (d ∷ interval_from a l))) && not b) 1 0
      go true e ih = rw (copies_first d w t b x.0) (last far (did_read a t d))
      go false e ih =
          let i = extended_by_read (own a d) d.declaration.mode d.declaration.side w b e in
          rw (copies_first d w t b x.0)
          (more far (did_read a t d) (did_read a (other w) d) b (any (did_read a t) (interval_from a l)) (copies a t (interval_from a l)) opposite (ih (subst (λ j. ExactFrom j l) i x.1)))

  once : (w : Side) (l : List Did) → ExactFrom (some (interval w false)) l → CopiesOnce a w (interval_from a l)
  once w l x t = counts w t false l x ∙ ap (λ z. cond z 1 0) (and-true (not (same_side t w) && any (did_read a t) (interval_from a l)))

module _ (a : ℕ) (plan : DeclaredPlan) (cs : List Bool) (ok : Accepts plan) {p : Pass} {ch : List Bool} {n : Progress} (h : Stages plan cs (in_body p Block.done Block.done) ch n) where
  abbrev layout : Layout
  layout = plan.layout

  ordered : ExactFrom layout a (interval_of layout a []) (onto n.made [])
  ordered = in_order layout a n.made [] (counted a plan cs ok h).exact tt

  pub once_from_start : is_scratch plan.layout a ≡ false → CopiesOnce a host (interval_from a (onto n.made []))
  once_from_start e = once layout a host (onto n.made []) (rw e at ordered)

  pub none_before_mark : (c : ℕ) → is_scratch plan.layout a ≡ true → in_span (span_of plan.layout a) c ≡ true → (t : Side) →
      copies a t (interval_from a (onto n.made [])) ≡ 0
  none_before_mark c e i t = none_before layout a c i t (onto n.made []) (rw e at ordered)

  pub once_from_write : (before after : List Did) (d : Did) → onto n.made [] ≡ before ++ (d ∷ after) → did_write a d ≡ true →
      CopiesOnce a d.declaration.side (interval_from a after)
  once_from_write before after d e w =
      let f = following layout a before (d ∷ after) (interval_of layout a []) (subst (ExactFrom layout a (interval_of layout a [])) e ordered) in
      once layout a d.declaration.side after (subst (λ o. ExactFrom layout a o after) (begun layout a d f.reached w) f.exact.1)
