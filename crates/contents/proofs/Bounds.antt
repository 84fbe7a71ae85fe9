-- What holds of a file in which no row of header, contents and tail does: its bounds.
use mathlib.Core.Path.{◌≡◌, sym, ◌∙◌}
use mathlib.Core.Logic.{⊎_elim}
use mathlib.Core.Bool.{true, false, not, true≢false, ◌&&◌, ◌||◌}
use mathlib.Core.List.{List}
use Prim.Native.Nat.{ℕ, zero, suc, ◌+◌, ◌*◌, ◌≤◌, ◌<◌}
use native.Mathlib.Omega.{arith}
use lib.Dec.{ltb, eqb}
use lib.ListN.{length}
use borrow.Author.Tests.{ltb-false, eqb-true, not-false}
use Rattle.model.proofs.Booleans.{or_none, or_out, and_out}
use Rattle.model.specs.Verdicts.{Accepted}
use Rattle.model.specs.Sides.{cell_count, span_of}
use Rattle.model.specs.Rows.{answer_of, all_rows}
use Rattle.reading.specs.Bytes.{is_declared, is_plain, kind_of, array_count, body_count, length_at, layout_of, records_in, declarations_in, sizes_of, first_record, record_count, bodies_at, between, lengths_of, byte_at, entry_at}
use Rattle.frame.specs.Frame.{header_fits, header_rows, tail_rows}
use Rattle.contents.specs.Contents.{array_rows, entry_rows, contents_rows, front_rows}
use Rattle.reading.proofs.FileKinds.{not_plain}
use Rattle.reading.proofs.Ranges.{of_range}
use Rattle.model.proofs.Rows.{skipped, passed, each_passed}
use Rattle.reading.proofs.Tables.{first_zero, all_cells}

-- what a header that keeps its rules gives
pub record Header (f : List ℕ) : Type 0 where
  pub kind : (1 ≤ kind_of f) × (kind_of f ≤ 2)
  pub arrays : (1 ≤ array_count f) × (array_count f ≤ 32)
  pub bodies : (1 ≤ body_count f) × (body_count f ≤ 32)
  pub plain : is_plain f ≡ true → body_count f ≡ 1

-- what holds of a file in which no row of header, contents and tail does
pub record Bounds (f : List ℕ) : Type 0 where
  pub header : Header f
  pub lengths : (a : ℕ) → a < array_count f → (1 ≤ length_at f a) × (length_at f a ≤ 4096)
  pub cells_below : cell_count (layout_of f) ≤ 4096
  pub declared : (b : ℕ) → b < body_count f → declarations_in f b ≤ records_in f b
  pub undeclared : declarations_in f 0 ≡ 0
  pub records : record_count f ≤ 1024
  pub long : length f ≡ bodies_at f + 8 * record_count f + 2

-- the entry of an array stands inside such a file
pub entry_inside : (f : List ℕ) → Bounds f → (a : ℕ) → a < array_count f → 4 + 2 * a + 2 ≤ length f
unfolding entry_at
entry_inside f w a h = omega (arith, w.long)

module _ (f : List ℕ) where
  pub header_bounds : Accepted ≡ answer_of (header_rows f) → Header f
  unfolding header_rows header_fits
  header_bounds e =
      let kinds = between 1 2 (kind_of f) in
      let arrays = between 1 32 (array_count f) in
      let bodies = between 1 32 (body_count f) in
      let one = is_declared f || eqb (body_count f) 1 in
      let w₁ = and_out (kinds && arrays && bodies && one) _ (not-false _ (skipped _ _ _ _ (skipped _ _ _ _ e).1).0) in
      let w₂ = and_out (kinds && arrays && bodies) one w₁.0 in
      let w₃ = and_out (kinds && arrays) bodies w₂.0 in
      let w₄ = and_out kinds arrays w₃.0 in
      record {
        kind = of_range 1 2 _ w₄.0;
        arrays = of_range 1 32 _ w₄.1;
        bodies = of_range 1 32 _ w₃.1;
        plain = λ k. ⊎_elim (λ u. absurd (true≢false (sym k ∙ not_plain f u))) (eqb-true _ _) (or_out (is_declared f) _ w₂.1);
      }

  array_bounds : (a : ℕ) → Accepted ≡ answer_of (array_rows f a) → ((1 ≤ length_at f a) × (length_at f a ≤ 4096)) × ((span_of (layout_of f) (suc a)).first ≤ 4096)
  unfolding array_rows
  array_bounds a e =
      let w = or_none (not (between 1 4096 (length_at f a))) _ (skipped _ _ _ _ e).0 in
      (of_range 1 4096 _ (not-false _ w.0), ltb-false _ _ w.1)

  cells_bound : (n : ℕ) → Accepted ≡ answer_of (all_rows n (array_rows f)) → (span_of (layout_of f) n).first ≤ 4096
  cells_bound zero e = omega (arith, first_zero (lengths_of f))
  cells_bound (suc n) e = (array_bounds n (each_passed (array_rows f) (suc n) n e (omega arith))).1

  body_bounds : (b : ℕ) → Accepted ≡ answer_of (entry_rows f b) → (declarations_in f b ≤ records_in f b) × ((eqb b 0 && not (eqb (declarations_in f b) 0)) ≡ false) × (first_record f (suc b) ≤ 1024)
  unfolding entry_rows
  body_bounds b e =
      let z = not (eqb (byte_at f (entry_at f b + 3)) 0) in
      let more = ltb (records_in f b) (declarations_in f b) in
      let main = eqb b 0 && not (eqb (declarations_in f b) 0) in
      let w₁ = or_none (z || more || main) _ (skipped _ _ _ _ e).0 in
      let w₂ = or_none (z || more) main w₁.0 in
      (ltb-false _ _ (or_none z more w₂.0).1, w₂.1, ltb-false _ _ w₁.1)

  records_bound : (n : ℕ) → Accepted ≡ answer_of (all_rows n (entry_rows f)) → first_record f n ≤ 1024
  records_bound zero e = omega (arith, first_zero (sizes_of f))
  records_bound (suc n) e = (body_bounds n (each_passed (entry_rows f) (suc n) n e (omega arith))).2

  contents_parts : Accepted ≡ answer_of (contents_rows f) → (Accepted ≡ answer_of (all_rows (array_count f) (array_rows f))) × (Accepted ≡ answer_of (all_rows (body_count f) (entry_rows f)))
  unfolding contents_rows
  contents_parts e = passed (all_rows (array_count f) (array_rows f)) _ (skipped _ _ _ _ e).1

  tail_bound : Accepted ≡ answer_of (tail_rows f) → length f ≡ bodies_at f + 8 * record_count f + 2
  unfolding tail_rows
  tail_bound e = eqb-true _ _ (not-false _ (skipped _ _ _ _ e).0)

  pub bounds_of : Accepted ≡ answer_of (front_rows f) → Bounds f
  unfolding front_rows
  bounds_of e =
      let p = passed (header_rows f) _ e in
      let q = passed (contents_rows f) _ p.1 in
      let h = header_bounds p.0 in
      let k = contents_parts q.0 in
      record {
        header = h;
        lengths = λ a l. (array_bounds a (each_passed (array_rows f) (array_count f) a k.0 l)).0;
        cells_below = rw (all_cells f) (cells_bound (array_count f) k.0);
        declared = λ b l. (body_bounds b (each_passed (entry_rows f) (body_count f) b k.1 l)).0;
        undeclared = eqb-true _ _ (not-false _ (body_bounds 0 (each_passed (entry_rows f) (body_count f) 0 k.1 (omega (arith, h.bodies)))).1);
        records = records_bound (body_count f) k.1;
        long = tail_bound q.1;
      }
