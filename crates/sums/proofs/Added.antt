-- Numbers added to those of a list, one by one and all at once.
use mathlib.Core.Path.{◌≡◌, refl, ◌∙◌, ap}
use mathlib.Core.List.{List, [], ◌∷◌}
use Prim.Native.Nat.{ℕ, zero, suc, ◌≤◌, ◌<◌, ◌+◌}
use native.Mathlib.Nat.{mul-add}
use native.Mathlib.Numerals.{add-one}
use native.Mathlib.Omega.{arith}
use lib.ListN.{length, get_or, take, set}
use Rattle.sums.specs.Sums.{plain_sum, weighted_sum}
use Rattle.sums.specs.Inner.Columns.{added}

-- one number more
next_added : (xs ys : List ℕ) (i : ℕ) → i < length xs → i < length ys → set (added xs (take i ys)) i (get_or xs i 0 + get_or ys i 0) ≡ added xs (take (suc i) ys)
unfolding added
next_added (x ∷ xs) (y ∷ ys) zero h k = refl
next_added (x ∷ xs) (y ∷ ys) (suc i) h k = ap (λ l. (x + y) ∷ l) (next_added xs ys i (omega arith) (omega arith))
next_added [] ys i h k = absurd (omega arith)
next_added (x ∷ xs) [] i h k = absurd (omega arith)

-- the others are as they were
added_later : (xs ys : List ℕ) (i : ℕ) → get_or (added xs (take i ys)) i 0 ≡ get_or xs i 0
unfolding added
added_later xs ys zero = refl
added_later xs [] (suc i) = refl
added_later [] (y ∷ ys) (suc i) = refl
added_later (x ∷ xs) (y ∷ ys) (suc i) = added_later xs ys i

-- a list in which i numbers are added: the next is still as it was, and with it one more is added
module _ (xs ys l : List ℕ) (i : ℕ) (so_far : l ≡ added xs (take i ys)) where
  pub still : get_or l i 0 ≡ get_or xs i 0
  still = ap (λ k. get_or k i 0) so_far ∙ added_later xs ys i

  pub added_next : (n : ℕ) → n ≡ get_or ys i 0 → i < length xs → i < length ys → set l i (get_or l i 0 + n) ≡ added xs (take (i + 1) ys)
  added_next n e h k = rw (e, still, so_far, add-one) (next_added xs ys i h k)

pub length_added : (xs ys : List ℕ) → length (added xs ys) ≡ length xs
unfolding added
length_added xs [] = refl
length_added [] (y ∷ ys) = refl
length_added (x ∷ xs) (y ∷ ys) = ap suc (length_added xs ys)

pub getD_added : (xs ys : List ℕ) (i : ℕ) → length ys ≤ length xs → get_or (added xs ys) i 0 ≡ get_or xs i 0 + get_or ys i 0
unfolding added
getD_added xs [] i h = omega arith
getD_added (x ∷ xs) (y ∷ ys) zero h = refl
getD_added (x ∷ xs) (y ∷ ys) (suc i) h = getD_added xs ys i (omega arith)
getD_added [] (y ∷ ys) i h = omega arith

-- the sums of both
pub plain_added : (xs ys : List ℕ) → length ys ≤ length xs → plain_sum (added xs ys) ≡ plain_sum xs + plain_sum ys
unfolding added plain_sum
plain_added xs [] h = omega arith
plain_added (x ∷ xs) (y ∷ ys) h = omega (arith, plain_added xs ys (omega arith))
plain_added [] (y ∷ ys) h = omega arith

pub weighted_added : (k : ℕ) (xs ys : List ℕ) → length ys ≤ length xs → weighted_sum k (added xs ys) ≡ weighted_sum k xs + weighted_sum k ys
unfolding added weighted_sum
weighted_added k xs [] h = omega arith
weighted_added k (x ∷ xs) (y ∷ ys) h = omega (arith, weighted_added (suc k) xs ys (omega arith), mul-add k x y)
weighted_added k [] (y ∷ ys) h = omega arith
