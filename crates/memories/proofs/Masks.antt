-- Sets of flags as numbers: the bit operations on them, flag by flag, and how many are set.
use mathlib.Core.Path.{◌≡◌, refl, ◌∙◌}
use mathlib.Core.Bool.{Bool, true, false, cond, not, ◌&&◌, ◌||◌, xor, and-false}
use Prim.Native.Nat.{ℕ, zero, suc, ◌+◌, ◌*◌, ◌%◌, ◌^◌, ◌≤◌, ◌<◌}
use native.Nat.{ℕᴺ_discrete}
use native.Mathlib.Decide.{dec_lt}
use native.Mathlib.Nat.{pow-suc}
use native.Mathlib.Omega.{arith}
use lib.Dec.{eqb}
use lib.Bits.{bit_and, bit_or, bit_xor, and_block, or_block, xor_block}
use lib.Count.{ones, ones_in, ones_cat}
use lib.Pow.{pow_pos, pow_mono, shl_exact}
use borrow.Author.Tests.{eq-eqb, ne_eqb}
use Rattle.model.specs.Lists.{how_many}
use Rattle.memories.specs.Flags.{mask}

-- a flag as a digit
abbrev digit : Bool → ℕ
digit b = cond b 1 0

-- it has n digits
pub mask_low : (n : ℕ) (x : ℕ → Bool) → mask n x < 2 ^ n
unfolding mask
mask_low zero x = omega arith
mask_low (suc n) x = go (x n) (mask_low n x) (pow-suc 2 n)
  where
    go : (b : Bool) → mask n x < 2 ^ n → 2 ^ suc n ≡ 2 ^ n * 2 → digit b * 2 ^ n + mask n x < 2 ^ suc n
    go true h e = omega arith
    go false h e = omega arith

-- no more than 32 of them fit a number of 32 bits
pub mask_fits : (n : ℕ) (x : ℕ → Bool) → n ≤ 32 → mask n x < 4294967296
mask_fits n x h = omega (arith, mask_low n x, pow_mono h)

-- only the n flags count
pub mask_same : (n : ℕ) (x y : ℕ → Bool) → ((a : ℕ) → a < n → x a ≡ y a) → mask n x ≡ mask n y
unfolding mask
mask_same zero x y h = refl
mask_same (suc n) x y h = rw (h n (omega arith), mask_same n x y (λ a l. h a (omega arith)))

-- setting a flag, in other words
pub set_or : (b f : Bool) → cond b true f ≡ (b || f)
set_or true f = refl
set_or false f = refl

-- no flag
pub none : (n : ℕ) → mask n (λ a. false) ≡ 0
unfolding mask
none zero = refl
none (suc n) = omega (arith, none n)

-- one flag
one : (n a : ℕ) → a < n → 2 ^ a ≡ mask n (λ b. eqb b a)
unfolding mask
one zero a h = absurd (omega arith)
one (suc n) a h = elim (dec_lt a n) [
  | yes l ↦ rw (ne_eqb n a (λ e. omega arith)) (omega (arith, one n a l))
  | no l ↦
      let e : n ≡ a = omega arith in
      let z : mask n (λ b. eqb b a) ≡ 0 = mask_same n _ (λ b. false) (λ b g. ne_eqb b a (λ q. omega arith)) ∙ none n in
      rw (eq-eqb n a e, z, e) (omega arith)
]

-- an operation that works on each digit apart
module _ (op : ℕ → ℕ → ℕ) (f : Bool → Bool → Bool)
    (block : (k a b r s : ℕ) → r < 2 ^ k → s < 2 ^ k → op (a * 2 ^ k + r) (b * 2 ^ k + s) ≡ op a b * 2 ^ k + op r s)
    (nothing : op 0 0 ≡ 0) (digits : (a b : Bool) → op (digit a) (digit b) ≡ digit (f a b)) where
  flag_by_flag : (n : ℕ) (x y : ℕ → Bool) → op (mask n x) (mask n y) ≡ mask n (λ a. f (x a) (y a))
  unfolding mask
  flag_by_flag zero x y = nothing
  flag_by_flag (suc n) x y = block n (digit (x n)) (digit (y n)) (mask n x) (mask n y) (mask_low n x) (mask_low n y) ∙ rw (digits (x n) (y n), flag_by_flag n x y)

both : (n : ℕ) (x y : ℕ → Bool) → bit_and (mask n x) (mask n y) ≡ mask n (λ a. x a && y a)
both = flag_by_flag bit_and (λ a b. a && b) and_block refl go
  where
    go : (a b : Bool) → bit_and (digit a) (digit b) ≡ digit (a && b)
    go true true = refl
    go true false = refl
    go false true = refl
    go false false = refl

either : (n : ℕ) (x y : ℕ → Bool) → bit_or (mask n x) (mask n y) ≡ mask n (λ a. x a || y a)
either = flag_by_flag bit_or (λ a b. a || b) or_block refl go
  where
    go : (a b : Bool) → bit_or (digit a) (digit b) ≡ digit (a || b)
    go true true = refl
    go true false = refl
    go false true = refl
    go false false = refl

differing : (n : ℕ) (x y : ℕ → Bool) → bit_xor (mask n x) (mask n y) ≡ mask n (λ a. xor (x a) (y a))
unfolding xor
differing = flag_by_flag bit_xor xor xor_block refl go
  where
    go : (a b : Bool) → bit_xor (digit a) (digit b) ≡ digit (xor a b)
    go true true = refl
    go true false = refl
    go false true = refl
    go false false = refl

-- a bit shifted inside w digits
pub shifted : (w a : ℕ) → a < w → (1 * 2 ^ a) % 2 ^ w ≡ 2 ^ a
shifted w a h = shl_exact 1 a w (omega arith) (omega arith) ∙ omega arith

-- the flag of array a
module _ (n : ℕ) (flag : ℕ → Bool) (a : ℕ) (h : a < n) where
  -- alone in a set
  alone : bit_and (mask n flag) (2 ^ a) ≡ mask n (λ b. flag b && eqb b a)
  alone = rw (one n a h) (both n flag (λ b. eqb b a))

  picked : (b : ℕ) → (flag b && eqb b a) ≡ (flag a && eqb b a)
  picked b = elim (ℕᴺ_discrete b a) [
    | yes e ↦ rw e
    | no e ↦ rw (ne_eqb b a e, and-false (flag b), and-false (flag a))
  ]

  pub tested : not (eqb (bit_and (mask n flag) (2 ^ a)) 0) ≡ flag a
  tested = go (flag a) (alone ∙ mask_same n _ _ (λ b g. picked b))
    where
      go : (t : Bool) → bit_and (mask n flag) (2 ^ a) ≡ mask n (λ b. t && eqb b a) → not (eqb (bit_and (mask n flag) (2 ^ a)) 0) ≡ t
      go true e = rw (e, ← one n a h, ne_eqb (2 ^ a) 0 (λ q. omega (arith, pow_pos a)))
      go false e = rw (e, none n)

  pub added : bit_or (mask n flag) (2 ^ a) ≡ mask n (λ b. cond (eqb b a) true (flag b))
  added = rw (one n a h) (either n flag (λ b. eqb b a)) ∙ mask_same n _ _ (λ b g. go (flag b) (eqb b a))
    where
      go : (x e : Bool) → (x || e) ≡ cond e true x
      go true true = refl
      go true false = refl
      go false true = refl
      go false false = refl

  pub cleared : bit_xor (mask n flag) (bit_and (mask n flag) (2 ^ a)) ≡ mask n (λ b. cond (eqb b a) false (flag b))
  unfolding xor
  cleared = rw alone (differing n flag (λ b. flag b && eqb b a)) ∙ mask_same n _ _ (λ b g. go (flag b) (eqb b a))
    where
      go : (x e : Bool) → xor x (x && e) ≡ cond e false x
      go true true = refl
      go true false = refl
      go false true = refl
      go false false = refl

-- how many are set
pub counted : (n : ℕ) (x : ℕ → Bool) → ones (mask n x) ≡ how_many x n
unfolding mask ones ones_in
counted zero x = refl
counted (suc n) x = ones_cat n (digit (x n)) (mask n x) (mask_low n x) ∙ go (x n) (counted n x)
  where
    go : (b : Bool) → ones (mask n x) ≡ how_many x n → ones (digit b) + ones (mask n x) ≡ cond b (suc (how_many x n)) (how_many x n)
    go true e = omega (arith, e)
    go false e = omega (arith, e)
