-- The status of each cell at the start, array by array.
use mathlib.Core.Path.{◌≡◌, sym, ap, ◌∙◌}
use mathlib.Core.List.{List}
use Prim.Native.Nat.{ℕ, ◌+◌, ◌≤◌, ◌<◌}
use native.Mathlib.Omega.{arith}
use lib.ListN.{length}
use Rattle.model.specs.Sides.{cell_count, span_of, is_scratch}
use Rattle.model.specs.Effects.{start}
use Rattle.model.specs.Inner.Holders.{array_of}
use Rattle.model.proofs.Numbering.{array_from}
use Rattle.model.proofs.Status.{at_start, status_of, start_status}
use Rattle.reading.specs.Bytes.{array_count, length_at, scratch_at, layout_of, lengths_of}
use Rattle.reading.proofs.Tables.{array_length, scratch_is, first_zero, all_cells}
use Rattle.memories.specs.Inner.Ranges.{Changed}
use Rattle.memories.proofs.Cells.{each, changed_none, changed_behind}
use Rattle.statuses.specs.Inner.Sets.{index}
use Rattle.steps.specs.Inner.Beginning.{Counted}
use Rattle.steps.proofs.First.{ends_at, ends_low}
use Rattle.tracked.specs.Inner.Tracking.{Statuses}

-- the number of the status of cell c before the first record
unfoldable pub first_status : List ℕ → ℕ → ℕ
first_status f c = index (status_of (layout_of f) c (start (layout_of f)))

-- each cell of array a starts as the array does
starts_so : (f : List ℕ) (a : ℕ) → a < array_count f → (c : ℕ) → (span_of (layout_of f) a).first ≤ c → c < (span_of (layout_of f) (a + 1)).first → index (at_start (scratch_at f a)) ≡ first_status f c
unfolding first_status
starts_so f a one c l h =
    let size = array_length f a one in
    let own : array_of (layout_of f) c ≡ a = array_from (layout_of f) a c l (omega (arith, ends_at f a one, size)) in
    ap index (sym (start_status (layout_of f) c (omega (arith, ends_low f a one)) ∙ ap (λ n. at_start (is_scratch (layout_of f) n)) own ∙ ap at_start (scratch_is f a one)))

-- after the arrays before a: their cells, those before `first`, have their statuses
pub record Begun (f : List ℕ) (n : ℕ) (before : List ℕ) (first a : ℕ) (cells : List ℕ) : Type 0 where
  pub low : a ≤ n
  pub ends : first ≡ (span_of (layout_of f) a).first
  pub set : Changed 1 0 (span_of (layout_of f) a).first (first_status f) before cells

pub begun_none : (f : List ℕ) (n : ℕ) (before : List ℕ) → Begun f n before 0 0 before
begun_none f n before = let e = first_zero (lengths_of f) in record { low = omega arith; ends = sym e; set = changed_none (omega (arith, e)) }

module _ {f : List ℕ} {n : ℕ} {before : List ℕ} {first a : ℕ} {cells : List ℕ} (w : Counted f n) (b : Begun f n before first a cells) where
  module _ (h : a < n) where
    there : a < array_count f
    there = omega (arith, w.count)

    next_at : first + length_at f a ≡ (span_of (layout_of f) (a + 1)).first
    next_at = omega (arith, b.ends, ends_at f a there)

    pub next_low : first + length_at f a ≤ cell_count (layout_of f)
    next_low = omega (arith, next_at, ends_low f a there)

    -- those of array a too
    pub begun_next : {after : List ℕ} {v : ℕ} → v ≡ index (at_start (scratch_at f a)) → Changed 1 first (first + length_at f a) (λ c. v) cells after →
        Begun f n before (first + length_at f a) (a + 1) after
    begun_next e u = record {
      low = omega arith;
      ends = next_at;
      set = changed_behind (omega arith) (omega (arith, ends_at f a there)) (λ c l h. e ∙ starts_so f a there c l h) b.set (rw (b.ends, ← ends_at f a there) at u);
    }

  -- all of them
  pub begun_all : n ≤ a → cell_count (layout_of f) ≤ length before → Statuses (layout_of f) (start (layout_of f)) cells
  unfolding first_status
  begun_all h r =
      let e : a ≡ array_count f = omega (arith, w.count, b.low) in
      let v : Changed 1 0 (cell_count (layout_of f)) (first_status f) before cells = rw (all_cells f, ← e) b.set in
      record { room = omega (arith, v.size); listed = λ c h. v.cell c ∙ rw (each 0 (cell_count (layout_of f)) c (omega arith) h) }
