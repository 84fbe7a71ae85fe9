-- Number 15: the row of a declaration, by the set of the cells that every way writes.
use mathlib.Core.Path.{◌≡◌, refl, ◌∙◌}
use mathlib.Core.Bool.{Bool, true, false, not, ◌&&◌, ◌||◌}
use mathlib.Core.List.{List, [], ◌∷◌}
use Prim.Native.Nat.{ℕ, zero, suc, ◌+◌, ◌-◌, ◌≤◌, ◌<◌}
use native.Mathlib.Numerals.{add-one}
use native.Mathlib.Omega.{arith}
use lib.Dec.{eqb}
use lib.ListN.{get_or, replicate}
use Rattle.std.specs.Prelude.{Option}
use Rattle.marks.specs.declared.Declaration.{Declaration}
use Rattle.model.specs.Sides.{Side, Layout, span_of}
use Rattle.model.specs.Records.{Action}
use Rattle.model.specs.Blocks.{Block}
use Rattle.model.specs.Judging.{always_writes, all_written}
use Rattle.model.proofs.Numbering.{array_from, array_ends}
use Rattle.reading.specs.declared.Fields.{Fields}
use Rattle.model.specs.Rows.{row}
use Rattle.reading.specs.Bytes.{array_count, layout_of, fields_at, lengths_of}
use Rattle.format.specs.Plans.{side_of, declaration_of, pass_at}
use Rattle.reading.proofs.Tables.{first_more}
use Rattle.passes.specs.declared.Extent.{Extent}
use Rattle.judge.specs.Judged.{w_rows}
use Rattle.judge.specs.Inner.Unmet.{Decides}
use Rattle.passes.specs.Inner.Passes.{PassAt}
use Rattle.permits.specs.Inner.Uses.{ByArray}
use Rattle.marks.specs.Inner.Marks.{marked, Adds, all_marked, Tables, always, met}
use Rattle.passes.proofs.Records.{declaration_array, others_block}
use Rattle.permits.proofs.ByArray.{declared_kept}
use Rattle.marks.proofs.Marks.{none_marked}

-- cells that are marked exactly if they are always written
all_same : (layout : Layout) (s : Side) (body : Block Action) (l : List Bool) (c n : ℕ) → ((k : ℕ) → c ≤ k → k < c + n → marked l k ≡ always_writes layout s k body) → all_marked l c n ≡ all_written layout s body c n
unfolding all_marked all_written
all_same layout s body l c zero h = refl
all_same layout s body l c (suc n) h = rw (h c (omega arith) (omega arith), all_same layout s body l (suc c) n (λ k u v. h k (omega arith) (omega arith)))

module _ (f : List ℕ) (e : Extent) (p : PassAt f e) (declared : List (Option Declaration)) (b : ByArray f e declared) (starts : List ℕ) (t : Tables f starts declared) where
  module _ (i : ℕ) (h : i < e.declarations) where
    abbrev x : Fields
    x = fields_at f (e.from + i)

    on_array : x.array < array_count f
    on_array = (declaration_array f e p i h).1

    start : get_or starts x.array 0 ≡ (span_of (layout_of f) x.array).first
    start = t.starts_are x.array (omega (arith, on_array))

    next : get_or starts (x.array + 1) 0 ≡ (span_of (layout_of f) x.array).first + (span_of (layout_of f) x.array).length
    next = t.starts_are (x.array + 1) (omega (arith, on_array)) ∙ rw add-one (first_more (lengths_of f) x.array)

    starts_fit : (x.array < 32) × (get_or starts x.array 0 ≤ get_or starts (x.array + 1) 0) × (get_or starts (x.array + 1) 0 ≤ 4096)
    starts_fit = (omega (arith, on_array, t.arrays_low), omega (arith, start, next), omega (arith, next, array_ends (layout_of f) x.array, t.cells_low))

    module _ (l : List Bool) (a : Adds (replicate 4096 false) l (always f declared (e.from + e.declarations) (e.from + e.records))) where
      cell_is : (k : ℕ) → (span_of (layout_of f) x.array).first ≤ k → k < (span_of (layout_of f) x.array).first + (span_of (layout_of f) x.array).length → marked l k ≡ always_writes (layout_of f) (side_of x.side) k (pass_at f e.body).body
      unfolding always
      cell_is k u v =
          rw (none_marked k, array_from (layout_of f) x.array k u v, declared_kept f e p declared b i h, ← others_block f e p) at (a.marks k (omega (arith, array_ends (layout_of f) x.array, t.cells_low)))

      all_is : all_marked l (get_or starts x.array 0) (get_or starts (x.array + 1) 0 - get_or starts x.array 0) ≡ all_written (layout_of f) (side_of x.side) (pass_at f e.body).body (span_of (layout_of f) x.array).first (span_of (layout_of f) x.array).length
      all_is =
          let n : get_or starts (x.array + 1) 0 - get_or starts x.array 0 ≡ (span_of (layout_of f) x.array).length = omega (arith, start, next) in
          rw (n, start) (all_same (layout_of f) (side_of x.side) (pass_at f e.body).body l (span_of (layout_of f) x.array).first (span_of (layout_of f) x.array).length cell_is)

      w_row : w_rows f e.body i ≡ (row (not (met starts l x)) 15 (e.from + i) ∷ [])
      unfolding w_rows declaration_of met
      w_row = rw (all_is, ← p.from_is) (go (eqb x.kind 17) _)
        where
          go : (w all : Bool) → (row (w && not all) 15 (e.from + i) ∷ []) ≡ (row (not (not w || all)) 15 (e.from + i) ∷ [])
          go true all = refl
          go false all = refl

  pub decides : (l : List Bool) → Adds (replicate 4096 false) l (always f declared (e.from + e.declarations) (e.from + e.records)) → Decides f starts l e
  decides l a = record { fit = λ i h. starts_fit i h; rows = λ i h. w_row i h l a }
