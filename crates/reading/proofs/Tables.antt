-- Tables, and the first cell of an array or the first record of a body: the one before it and its length.
use mathlib.Core.Path.{◌≡◌, refl, sym, ◌∙◌}
use mathlib.Core.Bool.{Bool, true, false, cond}
use mathlib.Core.List.{List, [], ◌∷◌}
use Prim.Native.Nat.{ℕ, zero, suc, ◌+◌, ◌%◌, ◌^◌, ◌≤◌, ◌<◌}
use native.Nat.{ℕᴺ_discrete}
use native.Mathlib.Decide.{dec_lt}
use native.Mathlib.Omega.{arith}
use lib.Dec.{ltb, leb}
use lib.ListN.{length, get_or, set, length-append, length-set, get_or-append}
use lib.Seq.{get_or_at, get_or-set_same, get_or-set_other, ext_get_or}
use borrow.Author.Tests.{lt-ltb, le-ltb, leb-true, leb-false, le-leb, lt-leb}
use Rattle.model.specs.Lists.{sum, sum_before}
use Rattle.model.specs.Sides.{cell_count, span_of, is_scratch}
use Rattle.model.proofs.Numbering.{ends_within}
use Rattle.reading.specs.Bytes.{array_count, body_count, table, length_at, scratch_at, lengths_of, scratch_of, layout_of, records_in, sizes_of, first_record}

module _ {A : Type 0} (g : ℕ → A) where
  pub length_table : (n : ℕ) → length (table g n) ≡ n
  unfolding table
  length_table zero = refl
  length_table (suc n) = simp (length-append, length_table n) (omega arith)

  pub getD_table : (n i : ℕ) (d : A) → i < n → get_or (table g n) i d ≡ g i
  unfolding table
  getD_table zero i d h = absurd (omega arith)
  getD_table (suc n) i d h = elim (dec_lt i n) [
    | yes m ↦ get_or-append (table g n) (g n ∷ []) d i (rw (length_table n) m) ∙ getD_table n i d m
    | no m ↦ let q : i ≡ n = omega arith in rw q (get_or_at (table g n) (g n) [] d n (length_table n))
  ]

-- a table that is changed at one entry
pub set_table : (g h : ℕ → ℕ) (n i v : ℕ) → i < n → v ≡ h i → ((k : ℕ) → (k ≡ i → ⊥) → g k ≡ h k) → set (table g n) i v ≡ table h n
set_table g h n i v l e same = ext_get_or 0 (set (table g n) i v) (table h n) (length-set (table g n) i v ∙ length_table g n ∙ sym (length_table h n)) entry
  where
    entry : (k : ℕ) → k < length (set (table g n) i v) → get_or (set (table g n) i v) k 0 ≡ get_or (table h n) k 0
    entry k m =
        let b : k < n = rw (length-set (table g n) i v, length_table g n) at m in
        elim (ℕᴺ_discrete k i) [
          | yes z ↦ rw z (get_or-set_same (table g n) i v 0 (rw (length_table g n) l) ∙ e ∙ sym (getD_table h n i 0 l))
          | no z ↦ get_or-set_other (table g n) i k v 0 z ∙ getD_table g n k 0 b ∙ same k z ∙ sym (getD_table h n k 0 b)
        ]

-- a table that is filled from the front, with 0 at the entries after m
pub filled_first : (g : ℕ → ℕ) → g 0 ≡ 0 → table (λ k. 0) 33 ≡ table (λ k. cond (leb k 0) (g k) 0) 33
unfolding table
filled_first g e = rw e

pub filled_next : (g : ℕ → ℕ) (n m v : ℕ) → m + 1 < n → v ≡ g (m + 1) → set (table (λ k. cond (leb k m) (g k) 0) n) (m + 1) v ≡ table (λ k. cond (leb k (m + 1)) (g k) 0) n
filled_next g n m v l e = set_table _ _ n (m + 1) v l (rw (le-leb (m + 1) (m + 1) (omega arith)) e) same
  where
    same : (k : ℕ) → (k ≡ m + 1 → ⊥) → cond (leb k m) (g k) 0 ≡ cond (leb k (m + 1)) (g k) 0
    same k z = elim (dec_lt m k) [
      | yes h ↦ rw (lt-leb k m h, lt-leb k (m + 1) (omega arith))
      | no h ↦ rw (le-leb k m (omega arith), le-leb k (m + 1) (omega arith))
    ]

-- the same with 0 at the entries from m on
pub stored_next : (g : ℕ → ℕ) (n m v : ℕ) → m < n → v ≡ g m → set (table (λ k. cond (ltb k m) (g k) 0) n) m v ≡ table (λ k. cond (ltb k (m + 1)) (g k) 0) n
stored_next g n m v l e = set_table _ _ n m v l (rw (lt-ltb m (m + 1) (omega arith)) e) same
  where
    same : (k : ℕ) → (k ≡ m → ⊥) → cond (ltb k m) (g k) 0 ≡ cond (ltb k (m + 1)) (g k) 0
    same k z = elim (dec_lt k m) [
      | yes h ↦ rw (lt-ltb k m h, lt-ltb k (m + 1) (omega arith))
      | no h ↦ rw (le-ltb k m (omega arith), le-ltb k (m + 1) (omega arith))
    ]

-- the first cell of array 0, of the array after array a, and the number of cells
pub first_zero : (l : List ℕ) → sum_before l 0 ≡ 0
unfolding sum_before
first_zero [] = refl
first_zero (n ∷ l) = refl

pub first_more : (l : List ℕ) (a : ℕ) → sum_before l (suc a) ≡ sum_before l a + get_or l a 0
unfolding sum_before
first_more [] a = refl
first_more (n ∷ l) zero = omega (arith, first_zero l)
first_more (n ∷ l) (suc a) = omega (arith, first_more l a)

pub cells_first : (l : List ℕ) → sum l ≡ sum_before l (length l)
unfolding sum_before
cells_first [] = refl
cells_first (n ∷ l) = rw (cells_first l)

pub first_rises : (l : List ℕ) (a b : ℕ) → a ≤ b → sum_before l a ≤ sum_before l b
first_rises l a zero h = let z : a ≡ 0 = omega arith in rw z (omega arith)
first_rises l a (suc b) h = elim (dec_lt a (suc b)) [
  | yes m ↦ omega (arith, first_rises l a b (omega arith), first_more l b)
  | no m ↦ let z : a ≡ suc b = omega arith in rw z (omega arith)
]

pub sums_within : (l : List ℕ) (a : ℕ) → sum_before l a ≤ sum l
sums_within l a = omega (arith, ends_within l a)

-- a file's arrays: how many they are, and how long each is
pub arrays_counted : (f : List ℕ) → length (lengths_of f) ≡ array_count f
unfolding lengths_of
arrays_counted f = length_table (length_at f) (array_count f)

pub array_length : (f : List ℕ) (a : ℕ) → a < array_count f → (span_of (layout_of f) a).length ≡ length_at f a
unfolding lengths_of
array_length f a h = getD_table (length_at f) (array_count f) a 0 h

-- and which of them are scratch
pub scratch_counted : (f : List ℕ) → length (scratch_of f) ≡ array_count f
unfolding scratch_of
scratch_counted f = length_table (scratch_at f) (array_count f)

pub scratch_is : (f : List ℕ) (a : ℕ) → a < array_count f → is_scratch (layout_of f) a ≡ scratch_at f a
unfolding scratch_of
scratch_is f a h = getD_table (scratch_at f) (array_count f) a false h

-- an entry is the length and the bit that marks scratch
pub entry_again : (n : ℕ) → n < 2 ^ 16 → n % 2 ^ 15 + cond (leb (2 ^ 15) n) (2 ^ 15) 0 ≡ n
entry_again n h = go (leb (2 ^ 15) n) refl
  where
    go : (b : Bool) → leb (2 ^ 15) n ≡ b → n % 2 ^ 15 + cond b (2 ^ 15) 0 ≡ n
    go true e = let l = leb-true (2 ^ 15) n e in omega arith
    go false e = let l = leb-false (2 ^ 15) n e in omega arith

-- and both are read from it again
pub length_again : (n : ℕ) (b : Bool) → n < 2 ^ 15 → (n + cond b (2 ^ 15) 0) % 2 ^ 15 ≡ n
length_again n true h = omega arith
length_again n false h = omega arith

pub scratch_again : (n : ℕ) (b : Bool) → n < 2 ^ 15 → leb (2 ^ 15) (n + cond b (2 ^ 15) 0) ≡ b
scratch_again n true h = le-leb (2 ^ 15) (n + 2 ^ 15) (omega arith)
scratch_again n false h = lt-leb (2 ^ 15) (n + 0) (omega arith)

-- the first cell of an array and the first record of a body of a file
pub next_cell : (f : List ℕ) (a : ℕ) → a < array_count f → (span_of (layout_of f) (suc a)).first ≡ (span_of (layout_of f) a).first + length_at f a
next_cell f a h = first_more (lengths_of f) a ∙ rw (array_length f a h)

pub next_record : (f : List ℕ) (b : ℕ) → b < body_count f → first_record f (suc b) ≡ first_record f b + records_in f b
unfolding sizes_of
next_record f b h = first_more (table (records_in f) (body_count f)) b ∙ rw (getD_table (records_in f) (body_count f) b 0 h)

pub all_cells : (f : List ℕ) → cell_count (layout_of f) ≡ (span_of (layout_of f) (array_count f)).first
all_cells f = cells_first (lengths_of f) ∙ rw (arrays_counted f)
