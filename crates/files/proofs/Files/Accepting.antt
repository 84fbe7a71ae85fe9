-- A file whose bodies are within the bounds passes the rows of header, contents and tail; it opens if the rows of its records pass too.
use mathlib.Core.Path.{◌≡◌, refl, ap}
use mathlib.Core.Bool.{Bool, true, false, not, ◌&&◌, ◌||◌}
use mathlib.Core.List.{List, [], ◌∷◌, ◌++◌}
use Prim.Native.Nat.{ℕ, zero, suc, ◌≤◌, ◌<◌}
use native.Mathlib.Omega.{arith}
use native.Mathlib.Nat.{zero-add}
use lib.ListN.{length}
use lib.Dec.{ltb, leb, eqb}
use borrow.Author.Tests.{le-ltb, leb-true, eqb-true, eq-eqb}
use Rattle.model.specs.Lists.{sum}
use Rattle.model.specs.Verdicts.{Accepted}
use Rattle.model.specs.Sides.{span_of, Layout, cell_count}
use Rattle.model.proofs.Booleans.{and_out}
use Rattle.model.proofs.Numbering.{array_ends}
use Rattle.model.specs.Rows.{Row, row, answer_of, all_rows}
use Rattle.reading.specs.Bytes.{array_count, length_at, first_record, bodies_at, between, lengths_of}
use Rattle.reading.proofs.Tables.{sums_within}
use Rattle.frame.specs.Frame.{header_fits, header_rows, tail_rows}
use Rattle.contents.specs.Contents.{array_rows, entry_rows, contents_rows, front_rows}
use Rattle.records.specs.Records.{body_rows}
use Rattle.format.specs.Opening.{open_rows, opening}
use Rattle.files.specs.Files.{Body}
use Rattle.files.specs.Bounds.{all_pass, arrays_fit}
use Rattle.files.proofs.Files.Holding.{Along, none, more, at_place, each_so, both_along}
use Rattle.files.proofs.Files.Places.{body_size, sizes, ArraysTold, Placed, Laid}

-- no row of the list holds
abbrev pub Passes : List Row → Type 0
Passes rows = answer_of rows ≡ Accepted

pub passes_none : Passes []
unfolding answer_of
passes_none = refl

pub passes_row : (holds : Bool) (number place : ℕ) (rows : List Row) → holds ≡ false → Passes rows → Passes (row holds number place ∷ rows)
unfolding answer_of
passes_row holds number place rows e h = rw e h

pub passes_append : (a b : List Row) → Passes a → Passes b → Passes (a ++ b)
unfolding answer_of
passes_append [] b e h = h
passes_append (row true n p ∷ a) b e h = absurd (let z : ◌≡◌ {A = ℕ} 0 1 = cc in omega arith)
passes_append (row false n p ∷ a) b e h = passes_append a b e h

passes_each : (n : ℕ) (rows : ℕ → List Row) → ((i : ℕ) → i < n → Passes (rows i)) → Passes (all_rows n rows)
unfolding all_rows
passes_each zero rows h = passes_none
passes_each (suc n) rows h = passes_append (all_rows n rows) (rows n) (passes_each n rows (λ i k. h i (omega arith))) (h n (omega arith))

passes_along : {A : Type 0} (l : List A) (rows : ℕ → List Row) → Along (λ i x. Passes (rows i)) 0 l → Passes (all_rows (length l) rows)
unfolding all_rows
passes_along [] rows h = passes_none
passes_along (x ∷ l) rows h = passes_each (suc (length l)) rows (λ i k. rw zero-add at (at_place h x i k))

pub within_bounds : (low high x : ℕ) → between low high x ≡ true → (low ≤ x) × (x ≤ high)
within_bounds low high x e = let h = and_out (leb low x) (leb x high) e in (leb-true _ _ h.0, leb-true _ _ h.1)

all_along : {A : Type 0} (test : A → Bool) (l : List A) (r : ℕ) → all_pass test l ≡ true → Along (λ i x. test x ≡ true) r l
all_along test [] r e = none
all_along test (x ∷ l) r e = let h = and_out (test x) (all_pass test l) e in more h.0 (all_along test l (suc r) h.1)

-- the arrays of a file, part by part
pub record ArraysFit (layout : Layout) : Type 0 where
  pub some : between 1 32 (length layout.lengths) ≡ true
  pub each : all_pass (between 1 4096) layout.lengths ≡ true
  pub total : leb (cell_count layout) 4096 ≡ true
  pub marked : length layout.scratch ≡ length layout.lengths

module _ (layout : Layout) (fit : arrays_fit layout ≡ true) where
  pub arrays_parts : ArraysFit layout
  arrays_parts =
      let (some, h) = and_out (between 1 32 (length layout.lengths)) _ fit in
      let (each, k) = and_out (all_pass (between 1 4096) layout.lengths) _ h in
      let (total, marked) = and_out (leb (cell_count layout) 4096) _ k in
      record { some = some; each = each; total = total; marked = eqb-true _ _ marked }

  pub arrays_told : ArraysTold layout
  arrays_told = record { short = λ a. omega (arith, array_ends layout a, leb-true (cell_count layout) 4096 arrays_parts.total); marked = arrays_parts.marked }

-- "more declarations than records, declarations in body 0"
pub record EntryFits (b : ℕ) (x : Body) : Type 0 where
  pub declared : x.declarations ≤ body_size x
  pub none_first : (eqb b 0 && not (eqb x.declarations 0)) ≡ false

-- the rows of each place, in the order of the table
module _ (f : List ℕ) (kind : ℕ) (layout : Layout) (bodies : List Body) (l : Laid f kind layout bodies) where
  header_passes : between 1 2 kind ≡ true → between 1 32 (length layout.lengths) ≡ true → between 1 32 (length bodies) ≡ true
      → (eqb kind 1 || eqb (length bodies) 1) ≡ true → Passes (header_rows f)
  unfolding header_rows header_fits
  header_passes kinds some-arrays some-bodies one =
      passes_row _ _ _ _ (le-ltb (length f) 4 (omega (arith, l.long, l.bodies_start)))
      (passes_row _ _ _ _ (rw (l.kind_is, l.arrayed.counted, l.body_count_is, l.zero_is, kinds, some-arrays, some-bodies, one)) passes_none)

  array_passes : leb (cell_count layout) 4096 ≡ true → (a n : ℕ) → length_at f a ≡ n → between 1 4096 n ≡ true → Passes (array_rows f a)
  unfolding array_rows
  array_passes total a n e fits =
      let few : cell_count layout ≤ 4096 = leb-true _ _ total in
      let so_far : ltb 4096 (span_of layout (suc a)).first ≡ false = le-ltb 4096 (span_of layout (suc a)).first (omega (arith, sums_within layout.lengths (suc a))) in
      let lengths_are : lengths_of f ≡ layout.lengths = ap (λ (y : Layout). y.lengths) l.arrays_are in
      passes_row _ _ _ _ (rw (e, lengths_are, fits, so_far)) passes_none

  body_passes : sum (sizes bodies) ≤ 1024 → (b : ℕ) (x : Body) → Placed f b x → EntryFits b x → Passes (entry_rows f b)
  unfolding entry_rows
  body_passes few b x p fits =
      let e = p.entry in
      let so_far : ltb 1024 (first_record f (suc b)) ≡ false = le-ltb 1024 (first_record f (suc b)) (omega (arith, l.within (suc b))) in
      let some : ltb (body_size x) x.declarations ≡ false = le-ltb _ _ fits.declared in
      passes_row _ _ _ _ (rw (so_far, e.last_is, e.records_are, e.declarations_are, some, fits.none_first)) passes_none

  contents_passes : arrays_fit layout ≡ true → sum (sizes bodies) ≤ 1024 → Along EntryFits 0 bodies → Passes (contents_rows f)
  unfolding contents_rows
  contents_passes fit few entries =
      let k = arrays_parts layout fit in
      let lengths = both_along l.arrayed.held (all_along (between 1 4096) layout.lengths 0 k.each) in
      let bodies-fit = both_along l.placed entries in
      passes_row _ _ _ _ (le-ltb (length f) (bodies_at f) (omega (arith, l.long)))
      (passes_append (all_rows (array_count f) (array_rows f)) _
      (rw l.arrayed.counted (passes_along layout.lengths (array_rows f) (each_so (λ a n p. array_passes k.total a n p.0 p.1) lengths)))
      (rw l.body_count_is (passes_along bodies (entry_rows f) (each_so (λ b x p. body_passes few b x p.0 p.1) bodies-fit))))

  tail_passes : Passes (tail_rows f)
  unfolding tail_rows
  tail_passes = passes_row _ _ _ _ (rw (eq-eqb _ _ l.long)) (passes_row _ _ _ _ (rw l.checked) passes_none)

  pub opens : between 1 2 kind ≡ true → arrays_fit layout ≡ true → between 1 32 (length bodies) ≡ true → (eqb kind 1 || eqb (length bodies) 1) ≡ true
      → sum (sizes bodies) ≤ 1024 → Along EntryFits 0 bodies → Along (λ b x. Passes (body_rows f b)) 0 bodies → opening f ≡ Accepted
  unfolding opening open_rows front_rows
  opens kinds fit some-bodies one few entries records =
      passes_append (front_rows f) _
      (passes_append (header_rows f) _ (header_passes kinds (arrays_parts layout fit).some some-bodies one)
      (passes_append (contents_rows f) _ (contents_passes fit few entries) tail_passes))
      (rw l.body_count_is (passes_along bodies (body_rows f) records))
