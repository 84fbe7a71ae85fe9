-- Facts on tests that the kit has not.
use Prim.Native.Nat.{ℕ}
use mathlib.Core.Path.{◌≡◌, refl, sym, ◌∙◌}
use mathlib.Core.Logic.{◌⊎◌, inl, inr}
use mathlib.Core.Bool.{Bool, true, false, not, ◌&&◌, ◌||◌, false≢true, true≢false}
use lib.Dec.{eqb}
use borrow.Author.Tests.{eqb-true, eqb-false, eq-eqb, ne_eqb}
use mathlib.Core.List.{List, [], ◌∷◌, ◌++◌}
use Rattle.model.specs.Sides.{Side, host, card, other, same_side}
use Rattle.model.specs.Lists.{any}

pub or_out : (a b : Bool) → (a || b) ≡ true → (a ≡ true) ⊎ (b ≡ true)
or_out true b e = inl refl
or_out false b e = inr e

pub or_left : (a b : Bool) → a ≡ true → (a || b) ≡ true
or_left a b e = rw e

pub or_right : (a b : Bool) → b ≡ true → (a || b) ≡ true
or_right true b e = refl
or_right false b e = e

pub or_none : (a b : Bool) → (a || b) ≡ false → (a ≡ false) × (b ≡ false)
or_none true b e = absurd (true≢false e)
or_none false b e = (refl, e)

pub and_out : (a b : Bool) → (a && b) ≡ true → (a ≡ true) × (b ≡ true)
and_out true b e = (refl, e)
and_out false b e = absurd (false≢true e)

pub and_in : (a b : Bool) → a ≡ true → b ≡ true → (a && b) ≡ true
and_in a b e f = rw (e, f)

pub and_none : (a b : Bool) → (a && b) ≡ false → (a ≡ false) ⊎ (b ≡ false)
and_none true b e = inr e
and_none false b e = inl refl

pub false_of : (b : Bool) → (b ≡ true → ⊥) → b ≡ false
false_of true f = absurd (f refl)
false_of false f = refl

pub eqb_swap : (a b : ℕ) → eqb a b ≡ eqb b a
eqb_swap a b = go (eqb b a) refl
  where
    go : (t : Bool) → eqb b a ≡ t → eqb a b ≡ eqb b a
    go true e = eq-eqb a b (sym (eqb-true b a e)) ∙ sym e
    go false e = ne_eqb a b (λ q. eqb-false b a e (sym q)) ∙ sym e

-- two sides
pub is_same : (s : Side) → same_side s s ≡ true
is_same host = refl
is_same card = refl

pub is_true : (s t : Side) → same_side s t ≡ true → s ≡ t
is_true host host e = refl
is_true host card e = absurd (false≢true e)
is_true card host e = absurd (false≢true e)
is_true card card e = refl

pub is_other : (s : Side) → same_side (other s) s ≡ false
is_other host = refl
is_other card = refl

pub is_not : (s t : Side) → same_side s (other t) ≡ not (same_side s t)
is_not host host = refl
is_not host card = refl
is_not card host = refl
is_not card card = refl

pub other_side : (t w : Side) → not (same_side t w) ≡ true → other w ≡ t
other_side host host e = absurd (false≢true e)
other_side host card e = refl
other_side card host e = refl
other_side card card e = absurd (false≢true e)

pub same_or_other : (s t : Side) → (t ≡ s) ⊎ (t ≡ other s)
same_or_other host host = inl refl
same_or_other host card = inr refl
same_or_other card host = inr refl
same_or_other card card = inl refl

module _ {A : Type 0} (f : A → Bool) where
  pub any_append : (l m : List A) → any f (l ++ m) ≡ (any f l || any f m)
  any_append [] m = refl
  any_append (x ∷ l) m = go (f x) (any_append l m)
    where
      go : (b : Bool) → any f (l ++ m) ≡ (any f l || any f m) → (b || any f (l ++ m)) ≡ ((b || any f l) || any f m)
      go true e = refl
      go false e = e
