-- The sums of columns: one row more in front, and how large they get.
use mathlib.Core.Path.{◌≡◌, refl, ap}
use mathlib.Core.List.{List, [], ◌∷◌, ◌++◌}
use Prim.Native.Nat.{ℕ, zero, suc, ◌≤◌, ◌<◌, ◌+◌, ◌*◌, ◌/◌, ◌%◌}
use native.Mathlib.Omega.{arith}
use lib.ListN.{length, get_or, drop, replicate, length-append, length-drop}
use lib.Seq.{drop-length}
use Rattle.sums.specs.Sums.{plain_sum, weighted_sum}
use Rattle.sums.specs.Inner.Columns.{added, Most, triangle, RowsOf, RoomForRow}
use Rattle.sums.proofs.Parts.{all_left, behind_more, whole_more, left_within, plain_append, weighted_append}
use Rattle.sums.proofs.Added.{length_added, getD_added, plain_added, weighted_added}

-- no more than 22 rows
triangle_most : (k : ℕ) → k ≤ 22 → triangle k ≤ 253
unfolding triangle
triangle_most k h = up 22 k h where
  up : (n k : ℕ) → k ≤ n → triangle k ≤ triangle n
  up n zero h = omega arith
  up (suc n) (suc k) h = omega (arith, up n k (omega arith))
  up zero (suc k) h = omega arith

-- the numbers of a part
module _ (n : ℕ) where
  most_front : (xs ys : List ℕ) → Most n (xs ++ ys) → Most n xs
  most_front [] ys h i = omega arith
  most_front (x ∷ xs) ys h zero = h 0
  most_front (x ∷ xs) ys h (suc i) = most_front xs ys (λ j. h (suc j)) i

  most_back : (xs ys : List ℕ) → Most n (xs ++ ys) → Most n ys
  most_back [] ys h = h
  most_back (x ∷ xs) ys h = most_back xs ys (λ j. h (suc j))

-- no row
pub zeros : (n i : ℕ) → ◌≡◌ {A = ℕ} (get_or (replicate n 0) i 0) 0
zeros zero i = refl
zeros (suc n) zero = refl
zeros (suc n) (suc i) = zeros n i

pub rows_none : RowsOf [] (replicate 32 0) (replicate 32 0)
unfolding plain_sum weighted_sum
rows_none = record { sum = refl; numbered = refl; above = omega arith; low = λ i. omega (arith, zeros 32 i); high = λ i. omega (arith, zeros 32 i); sizes = (refl, refl) }

-- one row more in front
module _ (row y plain weighted : List ℕ) (bytes : Most 255 row) (long : length row ≡ 32) (whole : length y % 32 ≡ 0) (r : RowsOf y plain weighted) where
  -- a column of the rows
  high_more : (i p w : ℕ) → p ≡ get_or plain i 0 + get_or row i 0 → w ≡ get_or weighted i 0 + p → w ≤ 255 * triangle (suc (length y / 32))
  unfolding triangle
  high_more i p w e f = omega (arith, bytes i, r.low i, r.high i)

  pub rows_more : RowsOf (row ++ y) (added plain row) (added weighted (added plain row))
  rows_more =
      let one : length row ≤ length plain = omega (arith, r.sizes) in
      let l = length-append row y in
      let np = length_added plain row in
      let two : length (added plain row) ≤ length weighted = omega (arith, r.sizes) in
      let sp = plain_added plain row one in
      let sw = plain_added weighted (added plain row) two in
      let next : length (row ++ y) / 32 ≡ suc (length y / 32) = omega arith in
      record {
        sum = omega (arith, plain_append row y, r.sum);
        numbered = omega (arith, weighted_added 1 plain row one, rw long at (weighted_append row y), plain_append row y, r.sum, r.numbered);
        above = omega arith;
        low = λ i. omega (arith, getD_added plain row i one, bytes i, r.low i);
        high = λ i. rw next (high_more i _ _ (getD_added plain row i one) (getD_added weighted (added plain row) i two));
        sizes = (omega (arith, r.sizes), omega (arith, r.sizes, length_added weighted (added plain row)));
      }

-- the columns of a band fit 16 bits
pub weighted_fit : (x plain weighted : List ℕ) → length x ≤ 704 → RowsOf x plain weighted → Most 65535 weighted
weighted_fit x plain weighted n r i = omega (arith, r.high i, triangle_most (length x / 32) (omega arith))

pub rows_fit : (x plain weighted : List ℕ) → length x ≤ 704 → length plain ≤ length weighted → RowsOf x plain (added weighted plain) → (i : ℕ) → get_or weighted i 0 + get_or plain i 0 < 65536
rows_fit x plain weighted n l r i = omega (arith, weighted_fit x plain (added weighted plain) n r i, getD_added weighted plain i l)

-- the rows that are left, and the sums of those behind them, which are taken
pub record RowsTaken (x left plain weighted : List ℕ) : Type 0 where
  pub whole : left ++ drop (length left) x ≡ x
  pub rows_left : length left % 32 ≡ 0
  pub rows : RowsOf (drop (length left) x) plain weighted

pub none_taken : (x : List ℕ) → length x % 32 ≡ 0 → RowsTaken x x (replicate 32 0) (replicate 32 0)
none_taken x whole = record { whole = all_left x; rows_left = whole; rows = rw (drop-length x) rows_none }

-- one row more taken, which is the last of those that are left
module _ (x left t row plain weighted : List ℕ) (bytes : Most 255 x) (all : length x % 32 ≡ 0) (few : length x ≤ 704) (v : RowsTaken x left plain weighted)
    (last : left ≡ t ++ row) (one_row : length row ≡ 32) where
  pub row_taken : RowsTaken x t (added plain row) (added weighted (added plain row))
  row_taken =
      let d = drop (length left) x in
      let low : Most 255 row = most_back 255 t row (most_front 255 (t ++ row) d (rw (← last, v.whole) bytes)) in
      let behind : length d % 32 ≡ 0 = simp length-drop (omega (arith, left_within x left v.whole, v.rows_left)) in
      record {
        whole = whole_more x left t row v.whole last;
        rows_left = omega (arith, ap length last, length-append t row, v.rows_left);
        rows = rw (behind_more x left t row v.whole last) (rows_more row d plain weighted low one_row behind v.rows);
      }

  row_fits : (i : ℕ) → get_or weighted i 0 + get_or (added plain row) i 0 < 65536
  row_fits = rows_fit (drop (length t) x) (added plain row) weighted (simp length-drop (omega arith)) (omega (arith, v.rows.sizes, length_added plain row)) row_taken.rows

  pub row_room : RoomForRow (record { plain = plain; weighted = weighted }) row
  row_room = record { lengths = (v.rows.sizes.0, v.rows.sizes.1, one_row); plain = λ i. omega (arith, v.rows.low i, length-drop (length left) x); weighted = row_fits }

-- whole rows leave no remainder
pub no_remainder : (x r rest : List ℕ) → x ≡ r ++ rest → length r ≡ 0 → x ≡ rest
no_remainder x [] rest e z = e
no_remainder x (n ∷ r) rest e z = absurd (omega arith)
