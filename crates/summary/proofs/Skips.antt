-- A block of which each record spares the cell leaves every status as it is, and stops nowhere: a walk may pass it by.
use Prim.Native.Nat.{ℕ, zero, suc}
use mathlib.Core.Path.{◌≡◌, refl, sym, subst, ◌∙◌}
use mathlib.Core.Logic.{inl, inr}
use mathlib.Core.Bool.{true≢false}
use Rattle.model.specs.Sides.{Layout}
use Rattle.model.specs.Records.{Action}
use Rattle.model.specs.Blocks.{Block, done, act, branch, loop, fixed}
use Rattle.model.proofs.Status.{Status}
use Rattle.model.proofs.Through.{Star, stay, more, Power, Goes, Stops}
use Rattle.statuses.specs.declared.acts.Found.{Found}
use Rattle.statuses.specs.Inner.Sets.{In}
use Rattle.statuses.proofs.Touched.{Spares}
use Rattle.summary.proofs.Ways.{Found_in, ran_iff, ran_none}

star_none : {R : Status → Status → Type 0} → ((u v : Status) → R u v → u ≡ v) → {u v : Status} → Star R u v → u ≡ v
star_none h stay = refl
star_none h {u} (more {w = w} r s) = h u w r ∙ star_none h s

module _ (R : Status → Status → Type 0) where
  power_none : ((u v : Status) → R u v → u ≡ v) → (n : ℕ) (u v : Status) → Power R n u v → u ≡ v
  power_none h zero u v p = p
  power_none h (suc n) u v p = h u p.0 p.1 ∙ power_none h n p.0 v p.2

  power_stays : ((u : Status) → R u u) → (n : ℕ) (u : Status) → Power R n u u
  power_stays h zero u = refl
  power_stays h (suc n) u = (u, h u, power_stays h n u)

module _ (layout : Layout) (c : ℕ) where
  abbrev pub Untouched : Block Action → Type 0
  Untouched done = Unit {0}
  Untouched (act k x b) = Spares layout c x × Untouched b
  Untouched (branch k x y b) = Untouched x × Untouched y × Untouched b
  Untouched (loop k x b) = Untouched x × Untouched b
  Untouched (fixed k n x b) = Untouched x × Untouched b

  skip_goes : (b : Block Action) → Untouched b → (u v : Status) → Goes layout c b u v → u ≡ v
  skip_goes done h u v g = g
  skip_goes (act k x b) h u v g = sym (h.0 u).1 ∙ skip_goes b h.1 _ v g
  skip_goes (branch k x y b) h u v g = elim g.1 [ inl p ↦ skip_goes x h.0 u g.0 p | inr p ↦ skip_goes y h.1 u g.0 p ] ∙ skip_goes b h.2 g.0 v g.2
  skip_goes (loop k x b) h u v g = star_none (skip_goes x h.0) g.1 ∙ skip_goes b h.1 g.0 v g.2
  skip_goes (fixed k n x b) h u v g = power_none (Goes layout c x) (skip_goes x h.0) (suc n) u g.0 g.1 ∙ skip_goes b h.1 g.0 v g.2

  skip_stays : (b : Block Action) → Untouched b → (u : Status) → Goes layout c b u u
  skip_stays done h u = refl
  skip_stays (act k x b) h u = subst (λ w. Goes layout c b w u) (sym (h.0 u).1) (skip_stays b h.1 u)
  skip_stays (branch k x y b) h u = (u, inl (skip_stays x h.0 u), skip_stays b h.2 u)
  skip_stays (loop k x b) h u = (u, stay, skip_stays b h.1 u)
  skip_stays (fixed k n x b) h u = (u, power_stays (Goes layout c x) (skip_stays x h.0) (suc n) u, skip_stays b h.1 u)

  skip_stops : (b : Block Action) → Untouched b → (u : Status) (r : ℕ) → Stops layout c b u r → ⊥
  skip_stops done h u r s = s
  skip_stops (act k x b) h u r (inl s) = true≢false (sym (h.0 u).0 ∙ s.1)
  skip_stops (act k x b) h u r (inr s) = skip_stops b h.1 _ r s
  skip_stops (branch k x y b) h u r (inl s) = elim s [ inl p ↦ skip_stops x h.0 u r p | inr p ↦ skip_stops y h.1 u r p ]
  skip_stops (branch k x y b) h u r (inr s) = skip_stops b h.2 s.0 r s.2
  skip_stops (loop k x b) h u r s = elim s.2 [ inl p ↦ skip_stops x h.0 s.0 r p | inr p ↦ skip_stops b h.1 s.0 r p ]
  skip_stops (fixed k n x b) h u r (inl s) = skip_stops x h.0 s.0 r s.2
  skip_stops (fixed k n x b) h u r (inr s) = skip_stops b h.1 s.0 r s.2

  pub ran_skip : (b : Block Action) → Untouched b → (t : Found) → Found_in layout c b (In t.set) t.low t
  ran_skip b h t = ran_iff (λ u v. (λ e. subst (Goes layout c b u) e (skip_stays b h u), skip_goes b h u v)) (λ u r. (λ s. absurd s, λ s. skip_stops b h u r s)) (ran_none layout c t)
