-- Values of n bits, and a test that two are the same.
use Prim.Native.Nat.{ℕ, zero, suc}
use mathlib.Core.Path.{◌≡◌, refl}
use mathlib.Core.Bool.{Bool, true, false, ◌&&◌, beq, false≢true}
use Rattle.model.proofs.Booleans.{and_out}

abbrev pub Bits : ℕ → Type 0
Bits zero = Unit {0}
Bits (suc n) = Bool × Bits n

-- whether two values are the same
unfoldable pub equal : (n : ℕ) → Bits n → Bits n → Bool
equal zero v w = true
equal (suc n) v w = beq v.0 w.0 && equal n v.1 w.1

pub equal_true : (n : ℕ) (v w : Bits n) → equal n v w ≡ true → v ≡ w
unfolding equal
equal_true zero v w e = refl
equal_true (suc n) v w e =
    let q = and_out (beq v.0 w.0) (equal n v.1 w.1) e in
    let p = go v.0 w.0 q.0 in
    λ i. (p i, equal_true n v.1 w.1 q.1 i)
  where
    go : (a b : Bool) → beq a b ≡ true → a ≡ b
    go true true e = refl
    go true false e = absurd (false≢true e)
    go false true e = absurd (false≢true e)
    go false false e = refl
