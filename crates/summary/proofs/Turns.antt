-- A free loop: statuses to look at, until none is new.
use Prim.Native.Nat.{ℕ, ◌≤◌, ◌<◌}
use mathlib.Core.Path.{◌≡◌, refl, sym, ap, subst, ◌∙◌}
use mathlib.Core.Logic.{◌⊎◌, inl, inr}
use mathlib.Core.Bool.{Bool, true, false, not, ◌&&◌, ◌||◌, and-true, false≢true}
use native.Mathlib.Omega.{arith}
use lib.Dec.{eqb}
use borrow.Author.Tests.{eqb-true}
use Rattle.model.specs.Sides.{Layout}
use Rattle.model.specs.Records.{Action}
use Rattle.model.specs.Blocks.{Block, done, loop}
use Rattle.model.proofs.Booleans.{or_out, and_out}
use Rattle.model.proofs.Status.{Status}
use Rattle.model.proofs.Through.{Star, stay, more, Goes, Stops}
use Rattle.statuses.specs.declared.acts.Found.{Found}
use Rattle.statuses.specs.Inner.Sets.{statuses, index, bit, In, Union, number_of}
use Rattle.statuses.specs.Inner.Ran.{Below}
use Rattle.statuses.proofs.Words.{no_bit, bit_none}
use Rattle.statuses.proofs.Statuses.{index_below, in_union}
use Rattle.summary.proofs.Ways.{Found_in}

star_last : {R : Status → Status → Type 0} {u w v : Status} → Star R u w → R w v → Star R u v
star_last stay r = more r stay
star_last (more s t) r = more s (star_last t r)

module _ (layout : Layout) (c : ℕ) (x : Block Action) (start : Found) where
  -- some of the statuses to start with reach w
  abbrev Reach : Status → Type 0
  Reach w = (u : Status) × In start.set u × Star (Goes layout c x) u w

  -- t is what is found so far: the statuses in `looked` have been looked at, those in `todo` are left
  pub record Turning (t : Found) (looked todo : ℕ) : Type 0 where
    pub begun : (u : Status) → In start.set u → In t.set u
    pub came : (v : Status) → In t.set v → Reach v
    pub lower : number_of t.low ≤ number_of start.low
    pub named : (t.low ≡ start.low) ⊎ ((w : Status) × Reach w × Stops layout c x w (number_of t.low))
    pub goes : (u v : Status) → In looked u → Goes layout c x u v → In t.set v
    pub least : (u : Status) (r : ℕ) → In looked u → Stops layout c x u r → Below (number_of t.low) r
    pub left : (i : ℕ) → bit todo i ≡ (bit t.set i && not (bit looked i))

  pub turning_none : Turning start 0 start.set
  turning_none = record {
    begun = λ u e. e;
    came = λ v e. (v, e, stay);
    lower = omega arith;
    named = inl refl;
    goes = λ u v e g. absurd (no_bit 0 (index u) refl e);
    least = λ u r e s. absurd (no_bit 0 (index u) refl e);
    left = λ i. rw (bit_none i) (sym (and-true (bit start.set i)));
  }

  module _ (t : Found) (looked todo : ℕ) (m : Turning t looked todo) where
    pub turning_all : (k : ℕ) → todo ≡ 0 → Found_in layout c (loop k x done) (In start.set) start.low t
    turning_all k e = record {
      exits = λ v. (
        λ d. let p = m.came v d in (p.0, p.1, (v, p.2, refl)),
        λ p. subst (In t.set) p.2.2 (closed p.2.1 (m.begun p.0 p.1)),
      );
      lower = m.lower;
      named = elim m.named [ inl d ↦ inl d | inr p ↦ inr (p.1.0, p.1.1, (p.0, p.1.2, inl p.2)) ];
      least = λ u r d s. elim s.2 [ inl a ↦ m.least s.0 r (all s.0 (closed s.1 (m.begun u d))) a | inr a ↦ absurd a ];
    }
      where
        -- every status of the set has been looked at
        all : (u : Status) → In t.set u → In looked u
        all u d = go (bit looked (index u)) refl
          where
            go : (b : Bool) → bit looked (index u) ≡ b → b ≡ true
            go true q = refl
            go false q = absurd (no_bit todo (index u) e (m.left (index u) ∙ rw (q, d)))

        closed : {u v : Status} → Star (Goes layout c x) u v → In t.set u → In t.set v
        closed stay d = d
        closed {u} (more {w = w} g s) d = closed s (m.goes u w (all u d) g)

    -- status w has not been looked at
    module _ (w : ℕ) (h : w < statuses) (b : bit todo w ≡ true) where
      pub turning_new : bit looked w ≡ false
      turning_new = go (bit looked w) refl
        where
          go : (d : Bool) → bit looked w ≡ d → d ≡ false
          go false q = refl
          go true q = let p = and_out (bit t.set w) (not (bit looked w)) (sym (m.left w) ∙ b) in absurd (false≢true (sym (ap not q) ∙ p.1))

      -- a turn from it
      pub turning_more : (row t' : Found) (looked' todo' : ℕ) → Found_in layout c x (λ u. index u ≡ w) t.low row →
          Union t'.set t.set row.set → t'.low ≡ row.low →
          ((i : ℕ) → i < statuses → bit looked' i ≡ (eqb i w || bit looked i)) →
          ((i : ℕ) → bit todo' i ≡ (bit t'.set i && not (bit looked' i))) → Turning t' looked' todo'
      turning_more row t' looked' todo' n es el ek et = record {
        begun = λ u e. (in_union es u).1 (inl (m.begun u e));
        came = λ v e. elim ((in_union es v).0 e) [
          | inl d ↦ m.came v d
          | inr d ↦ let p = (n.exits v).0 d in let q = here p.0 p.1 in (q.0, q.1, star_last q.2 p.2)
        ];
        lower = rw el (omega (arith, m.lower, n.lower));
        named = elim n.named [
          | inl e ↦ elim m.named [ inl d ↦ inl (el ∙ (e ∙ d)) | inr p ↦ inr (p.0, p.1, rw (el, e) p.2) ]
          | inr p ↦ inr (p.0, here p.0 p.1, rw el p.2)
        ];
        goes = λ u v e g. (in_union es v).1 (elim (seen u e) [
          | inl q ↦ inr ((n.exits v).1 (u, q, g))
          | inr q ↦ inl (m.goes u v q g)
        ]);
        least = λ u r e s. elim (seen u e) [
          | inl q ↦ rw el (n.least u r q s)
          | inr q ↦ let l = m.least u r q s in rw el (omega (arith, n.lower), omega (arith, n.lower))
        ];
        left = et;
      }
        where
          here : (u : Status) → index u ≡ w → Reach u
          here u q = m.came u (rw q (and_out (bit t.set w) (not (bit looked w)) (sym (m.left w) ∙ b)).0)

          seen : (u : Status) → In looked' u → (index u ≡ w) ⊎ In looked u
          seen u e = elim (or_out (eqb (index u) w) (bit looked (index u)) (sym (ek (index u) (index_below u)) ∙ e)) [ inl q ↦ inl (eqb-true _ _ q) | inr q ↦ inr q ]
