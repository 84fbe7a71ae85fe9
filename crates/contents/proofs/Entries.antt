-- Numbers 4 and 5: what one entry of the contents decides and adds.
use mathlib.Core.Path.{◌≡◌, ap, sym, ◌∙◌}
use mathlib.Core.Logic.{⊎_elim}
use mathlib.Core.Bool.{Bool, true, false, not, ◌&&◌, ◌||◌}
use mathlib.Core.List.{List}
use Prim.Native.Nat.{ℕ, suc, ◌+◌, ◌-◌, ◌≤◌, ◌<◌}
use native.Mathlib.Decide.{dec_lt}
use native.Mathlib.Numerals.{add-one}
use native.Mathlib.Omega.{arith}
use lib.Dec.{ltb, eqb}
use borrow.Author.Tests.{lt-ltb, le-ltb, ltb-true, ltb-false}
use Rattle.model.proofs.Booleans.{or_none, or_out, or_left, or_right}
use Rattle.model.specs.Verdicts.{Accepted, Refused}
use Rattle.model.specs.Sides.{span_of}
use Rattle.model.specs.Rows.{answer_of}
use Rattle.reading.specs.Bytes.{array_count, body_count, length_at, layout_of, records_in, declarations_in, first_record, between, byte_at, entry_at}
use Rattle.contents.specs.Contents.{array_rows, entry_rows}
use Rattle.model.proofs.Rows.{holds, skips, empty}
use Rattle.reading.proofs.Ranges.{in_range, out_of_range}
use Rattle.reading.proofs.Tables.{next_cell, next_record}

-- more than the room left of m is more than m in all
room_left : (k m n : ℕ) → k ≤ m → ltb (m - k) n ≡ ltb m (k + n)
room_left k m n h = elim (dec_lt m (k + n)) [
  | yes l ↦ lt-ltb (m - k) n (omega arith) ∙ sym (lt-ltb m (k + n) l)
  | no l ↦ le-ltb (m - k) n (omega arith) ∙ sym (le-ltb m (k + n) (omega arith))
]

-- the entry of array a: a length n, after so many cells
pub record ArrayEntry (f : List ℕ) (a n cells : ℕ) : Type 0 where
  pub one : a < array_count f
  pub size : n ≡ length_at f a
  pub before : cells ≡ (span_of (layout_of f) a).first
  pub low : cells ≤ 4096

module _ (f : List ℕ) (a n cells : ℕ) (x : ArrayEntry f a n cells) where
  pub cells_more : cells + n ≡ (span_of (layout_of f) (a + 1)).first
  cells_more = rw (add-one, next_cell f a x.one, ← x.before, ← x.size)

  abbrev bad_array : Bool
  bad_array = ltb n 1 || ltb (4096 - cells) n

  abbrev array_row : Bool
  array_row = not (between 1 4096 n) || ltb 4096 (cells + n)

  row_is : array_row ≡ (not (between 1 4096 (length_at f a)) || ltb 4096 (span_of (layout_of f) (suc a)).first)
  row_is = rw (next_cell f a x.one, ← x.before, ← x.size)

  pub array_stop : bad_array ≡ true → Refused 4 a ≡ answer_of (array_rows f a)
  unfolding array_rows
  array_stop t =
      let e : array_row ≡ true = ⊎_elim (λ u. or_left _ _ (ap not (out_of_range 1 4096 n (λ h l. omega (arith, ltb-true n 1 u))))) (λ u. or_right (not (between 1 4096 n)) _ (sym (room_left cells 4096 n x.low) ∙ u)) (or_out (ltb n 1) _ t) in
      holds _ _ _ _ (sym row_is ∙ e)

  pub array_pass : bad_array ≡ false → (Accepted ≡ answer_of (array_rows f a)) × (cells + n ≤ 4096)
  unfolding array_rows
  array_pass t =
      let w = or_none (ltb n 1) _ t in
      let one = ltb-false n 1 w.0 in
      let low = ltb-false 4096 (cells + n) (sym (room_left cells 4096 n x.low) ∙ w.1) in
      (skips _ _ _ _ _ (sym row_is ∙ rw (in_range 1 4096 n one (omega arith)) (le-ltb 4096 (cells + n) low)) empty, low)

-- the entry of body b: n records, d declarations and a last byte, after so many records
pub record BodyEntry (f : List ℕ) (b n d last records : ℕ) : Type 0 where
  pub one : b < body_count f
  pub size : n ≡ records_in f b
  pub declared : d ≡ declarations_in f b
  pub ends : last ≡ byte_at f (entry_at f b + 3)
  pub before : records ≡ first_record f b
  pub low : records ≤ 1024

module _ (f : List ℕ) (b n d last records : ℕ) (x : BodyEntry f b n d last records) where
  abbrev bad_body : Bool
  bad_body = not (eqb last 0) || ltb n d || (eqb b 0 && not (eqb d 0)) || ltb (1024 - records) n

  body_row : bad_body ≡ (not (eqb (byte_at f (entry_at f b + 3)) 0) || ltb (records_in f b) (declarations_in f b) || (eqb b 0 && not (eqb (declarations_in f b) 0)) || ltb 1024 (first_record f (suc b)))
  body_row = rw (room_left records 1024 n x.low, next_record f b x.one, ← x.before, ← x.size, ← x.declared, ← x.ends)

  pub body_stop : bad_body ≡ true → Refused 5 b ≡ answer_of (entry_rows f b)
  unfolding entry_rows
  body_stop t = holds _ _ _ _ (sym body_row ∙ t)

  pub body_pass : bad_body ≡ false → (Accepted ≡ answer_of (entry_rows f b)) × (records + n ≤ 1024)
  unfolding entry_rows
  body_pass t = (skips _ _ _ _ _ (sym body_row ∙ t) empty, ltb-false 1024 (records + n) (sym (room_left records 1024 n x.low) ∙ (or_none (not (eqb last 0) || ltb n d || (eqb b 0 && not (eqb d 0))) _ t).1))

pub records_more : (f : List ℕ) (b n records : ℕ) → b < body_count f → n ≡ records_in f b → records ≡ first_record f b → records + n ≡ first_record f (b + 1)
records_more f b n records one size before = rw (add-one, next_record f b one, ← before, ← size)
