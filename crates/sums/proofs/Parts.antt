-- The sums of a list from its parts: one entry more in front, and one list behind another.
use mathlib.Core.Path.{◌≡◌, refl, sym, ◌∙◌, ap}
use mathlib.Core.List.{List, [], ◌∷◌, ◌++◌}
use Prim.Native.Nat.{ℕ, zero, suc, ◌≤◌, ◌+◌, ◌*◌}
use native.Mathlib.Nat.{suc-mul, suc-add, zero-add}
use native.Mathlib.Omega.{arith}
use Rattle.std.proofs.lemmas.List.{append_assoc, append-nil, length-append}
use lib.ListN.{length, drop}
use lib.Seq.{drop-append_seam, drop-length}
use Rattle.std.specs.List.{sum}
use Rattle.std.proofs.lemmas.List.Sums.{sum_by-cons}
use Rattle.sums.specs.Sums.{plain_sum, weighted_sum}
use Rattle.sums.specs.Inner.Columns.{Most}

-- one number more for each entry adds the entries once
shifted : (k : ℕ) (xs : List ℕ) → weighted_sum (suc k) xs ≡ weighted_sum k xs + plain_sum xs
unfolding weighted_sum plain_sum
shifted k [] = refl
shifted k (x ∷ xs) = omega (arith, shifted (suc k) xs, suc-mul k x)

-- n numbers more
shifted_by : (n k : ℕ) (xs : List ℕ) → weighted_sum (n + k) xs ≡ weighted_sum k xs + n * plain_sum xs
shifted_by zero k xs = rw zero-add (omega arith)
shifted_by (suc n) k xs = rw suc-add (omega (arith, shifted (n + k) xs, shifted_by n k xs, suc-mul n (plain_sum xs)))

-- the entries that are left, and the sums of those behind them, which are taken
pub record Passed (s left : List ℕ) (plain weighted : ℕ) : Type 0 where
  pub whole : left ++ drop (length left) s ≡ s
  pub plain_so_far : plain ≡ plain_sum (drop (length left) s)
  pub weighted_so_far : weighted ≡ weighted_sum 1 (drop (length left) s)

-- none taken
pub all_left : (s : List ℕ) → s ++ drop (length s) s ≡ s
all_left s = simp (drop-length, append-nil)

pub passed_none : (s : List ℕ) → Passed s s 0 0
unfolding plain_sum weighted_sum
passed_none s = record { whole = all_left s; plain_so_far = rw (drop-length s); weighted_so_far = rw (drop-length s) }

-- a part more taken, which is the last of those that are left
module _ (s left t m : List ℕ) (whole : left ++ drop (length left) s ≡ s) (last : left ≡ t ++ m) where
  pub behind_more : drop (length t) s ≡ m ++ drop (length left) s
  behind_more = ap (drop (length t)) (sym whole ∙ (ap (λ k. k ++ drop (length left) s) last ∙ append_assoc t m (drop (length left) s))) ∙ drop-append_seam t (m ++ drop (length left) s)

  pub whole_more : t ++ drop (length t) s ≡ s
  whole_more = ap (λ k. t ++ k) behind_more ∙ (sym (append_assoc t m (drop (length left) s)) ∙ (ap (λ k. k ++ drop (length left) s) (sym last) ∙ whole))

-- one entry more taken
pub passed_next : (s left t : List ℕ) (x plain weighted p w : ℕ) → left ≡ t ++ (x ∷ []) → p ≡ x + plain → w ≡ p + weighted → Passed s left plain weighted → Passed s t p w
unfolding plain_sum weighted_sum
passed_next s left t x plain weighted p w last e f v =
    let m = behind_more s left t (x ∷ []) v.whole last in
    record {
      whole = whole_more s left t (x ∷ []) v.whole last;
      plain_so_far = rw m (omega (arith, v.plain_so_far));
      weighted_so_far = rw m (omega (arith, v.plain_so_far, v.weighted_so_far, shifted 1 (drop (length left) s)));
    }

-- no more are left than there are
pub left_within : (s left : List ℕ) → left ++ drop (length left) s ≡ s → length left ≤ length s
left_within s left whole = omega (arith, ap length whole, length-append left (drop (length left) s))

-- all taken
pub behind_all : (s left : List ℕ) → length left ≡ 0 → drop (length left) s ≡ s
behind_all s left e = rw e

-- one list behind another
pub plain_append : (xs ys : List ℕ) → plain_sum (xs ++ ys) ≡ plain_sum xs + plain_sum ys
unfolding plain_sum
plain_append [] ys = omega arith
plain_append (x ∷ xs) ys = omega (arith, plain_append xs ys)

-- with the first entry numbered k
append_from : (k : ℕ) (xs ys : List ℕ) → weighted_sum k (xs ++ ys) ≡ weighted_sum k xs + weighted_sum (length xs + k) ys
unfolding weighted_sum
append_from k [] ys = simp zero-add
append_from k (x ∷ xs) ys =
    let e : length xs + suc k ≡ length (x ∷ xs) + k = omega arith in
    omega (arith, rw e at (append_from (suc k) xs ys))

pub weighted_append : (xs ys : List ℕ) → weighted_sum 1 (xs ++ ys) ≡ weighted_sum 1 xs + length xs * plain_sum ys + weighted_sum 1 ys
weighted_append xs ys = omega (arith, append_from 1 xs ys, shifted_by (length xs) 1 ys)

-- the sum as the library has it, and how large it gets
pub plain_is : (s : List ℕ) → sum s ≡ plain_sum s
unfolding plain_sum
plain_is [] = refl
plain_is (x ∷ xs) = sum_by-cons (λ n. n) x xs ∙ ap (λ n. x + n) (plain_is xs)

pub plain_most : (n : ℕ) (s : List ℕ) → Most n s → plain_sum s ≤ n * length s
unfolding plain_sum
plain_most n [] h = omega arith
plain_most n (x ∷ xs) h = omega (arith, h 0, plain_most n xs (λ i. h (suc i)))
