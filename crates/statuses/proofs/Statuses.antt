-- Statuses by their numbers, and a test of all of them.
use Prim.Native.Nat.{ℕ, zero, suc, ◌<◌}
use mathlib.Core.Path.{◌≡◌, refl, sym, ◌∙◌}
use mathlib.Core.Logic.{◌⊎◌, inl, inr, ◌↔◌}
use mathlib.Core.Bool.{Bool, true, false, ◌&&◌, beq}
use lib.Dec.{ltb, eqb}
use borrow.Author.Tests.{ltb-true, eqb-true, eq-eqb}
use Rattle.model.proofs.Booleans.{or_out, or_left, or_right, and_out}
use Rattle.model.proofs.Bits.{Bits, equal}
use Rattle.model.proofs.Status.{Status, width, bits, status_at, alike, alike_true}
use Rattle.statuses.specs.Inner.Sets.{statuses, index, bit, In, Union}
use Rattle.statuses.proofs.Tests.{beq_true, all_below_at}

-- whether every value of n bits passes the test
abbrev all_bits : (n : ℕ) → (Bits n → Bool) → Bool
all_bits zero f = f tt
all_bits (suc n) f = all_bits n (λ w. f (false, w)) && all_bits n (λ w. f (true, w))

all_bits_at : (n : ℕ) (f : Bits n → Bool) → all_bits n f ≡ true → (w : Bits n) → f w ≡ true
all_bits_at zero f e w = e
all_bits_at (suc n) f e w = go w.0 (λ b h. all_bits_at n (λ v. f (b, v)) h w.1) (and_out (all_bits n (λ v. f (false, v))) (all_bits n (λ v. f (true, v))) e)
  where
    go : (b : Bool) → ((b : Bool) → all_bits n (λ v. f (b, v)) ≡ true → f (b, w.1) ≡ true) →
        (all_bits n (λ v. f (false, v)) ≡ true) × (all_bits n (λ v. f (true, v)) ≡ true) → f (b, w.1) ≡ true
    go false h p = h false p.0
    go true h p = h true p.1

-- whether every status passes the test
abbrev pub all : (Status → Bool) → Bool
all f = all_bits width (λ w. f (status_at w))

pub all_at : (f : Status → Bool) → all f ≡ true → (u : Status) → f u ≡ true
all_at f e u = all_bits_at width (λ w. f (status_at w)) e (bits u)

pub all_equal : (f g : Status → Bool) → all (λ u. beq (f u) (g u)) ≡ true → (u : Status) → f u ≡ g u
all_equal f g e u = beq_true (f u) (g u) (all_at (λ u. beq (f u) (g u)) e u)

-- the status with this number
unfoldable pub numbered : ℕ → Status
numbered n = status_at (bit n 3, (bit n 2, (bit n 1, (bit n 0, tt))))

pub index_below : (u : Status) → index u < statuses
index_below u = ltb-true (index u) statuses (all_at (λ v. ltb (index v) statuses) refl u)

pub index_numbered : (n : ℕ) → n < statuses → index (numbered n) ≡ n
unfolding numbered bit
index_numbered n h = eqb-true (index (numbered n)) n (all_below_at (λ k. eqb (index (numbered k)) k) statuses refl n h)

-- no two have the same
pub index_one : (u v : Status) → index u ≡ index v → u ≡ v
unfolding equal
index_one u v e = alike_true u v (sym (test u v) ∙ eq-eqb (index u) (index v) e)
  where
    test : (u v : Status) → eqb (index u) (index v) ≡ alike u v
    test u = all_equal (λ v. eqb (index u) (index v)) (alike u) (all_at (λ u. all λ v. beq (eqb (index u) (index v)) (alike u v)) refl u)

-- a status of either set
pub in_union : {r a b : ℕ} → Union r a b → (v : Status) → In r v ↔ (In a v ⊎ In b v)
in_union {r} {a} {b} u v = (
  λ e. or_out (bit a (index v)) (bit b (index v)) (sym (u.bits (index v)) ∙ e),
  elim [ inl e ↦ u.bits (index v) ∙ or_left (bit a (index v)) (bit b (index v)) e | inr e ↦ u.bits (index v) ∙ or_right (bit a (index v)) (bit b (index v)) e ],
)
