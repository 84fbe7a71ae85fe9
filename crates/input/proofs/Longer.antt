-- Of an input longer than every plan file, more bytes than the largest one has decide the answer: header and contents stand among them, and where those
-- keep their rules they do not say so great a length.
use mathlib.Core.Path.{◌≡◌, refl, sym, ap, ◌∙◌}
use mathlib.Core.Bool.{false, true, not, ◌&&◌, ◌||◌}
use mathlib.Core.List.{List, [], ◌∷◌, ◌++◌, append_assoc}
use Prim.Native.Nat.{ℕ, zero, suc, ◌+◌, ◌*◌, ◌%◌, ◌^◌, ◌≤◌, ◌<◌}
use native.Mathlib.Decide.{dec_lt}
use native.Mathlib.Omega.{arith}
use lib.Dec.{ltb, eqb}
use lib.ListN.{length, take}
use lib.Seq.{take_all, length-take-le, get_or-take}
use borrow.Author.Tests.{le-ltb, ne_eqb, ltb-false}
use Rattle.model.proofs.Booleans.{or_none}
use Rattle.std.specs.Prelude.{Ok, Err}
use Rattle.contents.specs.declared.Opened.{Opened}
use Rattle.model.specs.Verdicts.{Verdict, Accepted, Refused, where_accepted}
use Rattle.model.specs.Rows.{Row, row, answer_of, all_rows}
use Rattle.reading.specs.Bytes.{byte_at, u16_at, array_count, body_count, table, length_at, entry_at, records_in, declarations_in, sizes_of, first_record, record_count, bodies_at, lengths_of}
use Rattle.frame.specs.Frame.{header_fits, header_rows, tail_rows}
use Rattle.contents.specs.Contents.{array_rows, entry_rows, contents_rows, front_rows}
use Rattle.records.specs.Records.{body_rows}
use Rattle.format.specs.Opening.{open_rows, opening, opened}
use Rattle.contents.specs.Found.{found}
use Rattle.model.proofs.Rows.{refused, holds, stop, passed, skipped, each_passed}
use Rattle.contents.proofs.Bounds.{Header, header_bounds}
use Rattle.input.specs.Longer.{Decided, Longer}

-- the places in the table's order
places : (f : List ℕ) → open_rows f ≡ header_rows f ++ (contents_rows f ++ (tail_rows f ++ all_rows (body_count f) (body_rows f)))
unfolding open_rows front_rows
places f = simp append_assoc

-- two lists of rows that begin alike
same_start : (a b c : List Row) → (Accepted ≡ answer_of a → answer_of b ≡ answer_of c) → answer_of (a ++ b) ≡ answer_of (a ++ c)
unfolding answer_of
same_start [] b c h = h refl
same_start (row true n p ∷ a) b c h = refl
same_start (row false n p ∷ a) b c h = same_start a b c h

-- tables and rows entry by entry
same_table : (g h : ℕ → ℕ) (n : ℕ) → ((i : ℕ) → i < n → g i ≡ h i) → table g n ≡ table h n
unfolding table
same_table g h zero e = refl
same_table g h (suc n) e = rw (same_table g h n (λ i l. e i (omega arith)), e n (omega arith))

same_each : (g h : ℕ → List Row) (n : ℕ) → ((i : ℕ) → i < n → g i ≡ h i) → all_rows n g ≡ all_rows n h
unfolding all_rows
same_each g h zero e = refl
same_each g h (suc n) e = rw (same_each g h n (λ i l. e i (omega arith)), e n (omega arith))

-- of a file whose header keeps its rules: the contents end within 196 bytes, and say at most 1,024 records
module _ (f : List ℕ) (h : Header f) where
  short : bodies_at f ≤ 196
  unfolding entry_at
  short = omega (arith, h.arrays, h.bodies)

  few : (n : ℕ) → 1 ≤ n → Accepted ≡ answer_of (all_rows n (entry_rows f)) → first_record f n ≤ 1024
  unfolding entry_rows
  few zero l e = absurd (omega arith)
  few (suc n) l e =
      let others = not (eqb (byte_at f (entry_at f n + 3)) 0) || ltb (records_in f n) (declarations_in f n) || (eqb n 0 && not (eqb (declarations_in f n) 0)) in
      ltb-false _ _ (or_none others _ (skipped _ _ _ _ (each_passed (entry_rows f) (suc n) n e (omega arith))).0).1

  module _ (long : 8390 < length f) (k : Accepted ≡ answer_of (contents_rows f)) where
    other : length f ≡ bodies_at f + 8 * record_count f + 2 → ⊥
    unfolding contents_rows
    other e =
        let p = passed (all_rows (array_count f) (array_rows f)) _ (skipped _ _ _ _ k).1 in
        omega (arith, short, few (body_count f) h.bodies.0 p.1)

    sixth : (rest : List Row) → Refused 6 0 ≡ answer_of (tail_rows f ++ rest)
    unfolding tail_rows
    sixth rest = holds _ _ _ _ (ap not (ne_eqb _ _ other))

-- of two files that agree in their first 8,391 bytes
module _ (f g : List ℕ) (lf : 8390 < length f) (lg : 8390 < length g) (near : (i : ℕ) → i < 8391 → byte_at f i ≡ byte_at g i) where
  headers : header_rows f ≡ header_rows g
  unfolding header_rows header_fits
  headers = rw (le-ltb (length f) 4 (omega arith), le-ltb (length g) 4 (omega arith), near 0 (omega arith), near 1 (omega arith), near 2 (omega arith), near 3 (omega arith))

  pair : (i : ℕ) → i < 8390 → u16_at f i ≡ u16_at g i
  unfolding u16_at
  pair i l = rw (near i (omega arith), near (i + 1) (omega arith))

  entry : (b : ℕ) → entry_at f b ≡ entry_at g b
  unfolding entry_at
  entry b = rw (near 1 (omega arith))

  module _ (h : Header f) where
    lengths : (a : ℕ) → a < array_count f → length_at f a ≡ length_at g a
    unfolding length_at
    lengths a l = ap (λ n. n % 2 ^ 15) (pair (4 + 2 * a) (omega (arith, h.arrays)))

    low : (b : ℕ) → b < body_count f → entry_at f b < 200
    unfolding entry_at
    low b l = omega (arith, h.arrays, h.bodies)

    records : (b : ℕ) → b < body_count f → records_in f b ≡ records_in g b
    records b l = rw (← entry b) (pair (entry_at f b) (omega (arith, low b l)))

    arrays : lengths_of f ≡ lengths_of g
    unfolding lengths_of
    arrays = same_table _ _ _ lengths ∙ rw (near 1 (omega arith))

    sizes : sizes_of f ≡ sizes_of g
    unfolding sizes_of
    sizes = same_table _ _ _ records ∙ rw (near 2 (omega arith))

    array_row : (a : ℕ) → a < array_count f → array_rows f a ≡ array_rows g a
    unfolding array_rows
    array_row a l = rw (lengths a l, arrays)

    body_row : (b : ℕ) → b < body_count f → entry_rows f b ≡ entry_rows g b
    unfolding entry_rows
    body_row b l =
        let m = low b l in
        rw (records b l, near (entry_at f b + 2) (omega arith), near (entry_at f b + 3) (omega arith), entry b, sizes)

    contents : contents_rows f ≡ contents_rows g
    unfolding contents_rows
    contents =
        let s = short f h in
        let t : bodies_at g ≤ 196 = rw (near 2 (omega arith), entry (body_count g)) at s in
        rw (le-ltb (length f) (bodies_at f) (omega arith), le-ltb (length g) (bodies_at g) (omega arith), same_each _ _ _ array_row, same_each _ _ _ body_row, near 1 (omega arith), near 2 (omega arith))

  same : opening f ≡ opening g
  unfolding opening
  same = rw (places f, places g) (same_start (header_rows f) _ _ after ∙ rw headers)
    where
      after : Accepted ≡ answer_of (header_rows f) → answer_of (contents_rows f ++ (tail_rows f ++ all_rows (body_count f) (body_rows f))) ≡ answer_of (contents_rows g ++ (tail_rows g ++ all_rows (body_count g) (body_rows g)))
      after e =
          let h = header_bounds f e in
          let i = header_bounds g (rw headers at e) in
          same_start (contents_rows f) _ _ (λ k. sym (sixth f h lf k (all_rows (body_count f) (body_rows f))) ∙ sixth g i lg (rw (contents h) at k) (all_rows (body_count g) (body_rows g))) ∙ rw (contents h)

refuses : (f : List ℕ) → 8390 < length f → opening f ≡ Accepted → ⊥
unfolding opening
refuses f l e =
    let p = passed (header_rows f) _ (rw (places f) at (sym e)) in
    let q = passed (contents_rows f) _ p.1 in
    refused (sym (sixth f (header_bounds f p.0) l q.0 _)) (sym q.1)

-- a refusal finds nothing, so the same answer is the same result
same_refused : (v : Verdict) (x y : Opened) → (v ≡ Accepted → ⊥) → where_accepted v x ≡ where_accepted v y
same_refused (Ok u) x y nay = absurd (nay refl)
same_refused (Err e) x y nay = refl

same_opened : (f g : List ℕ) → (opening f ≡ Accepted → ⊥) → opening f ≡ opening g → opened f ≡ opened g
unfolding opened
same_opened f g nay e = same_refused (opening f) (found f) (found g) nay ∙ rw e

-- and every service refuses as opening does
same_services : (f g : List ℕ) → (opening f ≡ Accepted → ⊥) → opening f ≡ opening g → (rows whole : List Row) → answer_of (open_rows g ++ rows) ≡ answer_of (open_rows f ++ whole)
unfolding opening
same_services f g nay e rows whole = sym (stop (open_rows g) rows _ nay e) ∙ stop (open_rows f) whole _ nay refl

decided : (f : List ℕ) (n : ℕ) → 8390 < length f → opening f ≡ opening (take n f) → Decided f n
decided f n l e = record { same = sym (same_opened f (take n f) (refuses f l) e); refuses = refuses f l; services = same_services f (take n f) (refuses f l) e }

pub longer : Longer
longer f n l m = elim (dec_lt n (length f)) [
  | yes h ↦
      let k : length (take n f) ≡ n = length-take-le n f (omega arith) in
      decided f n l (same f (take n f) l (omega arith) (λ i j. sym (get_or-take n f i 0 (omega arith))))
  | no h ↦ decided f n l (rw (take_all n f (omega arith)))
]
