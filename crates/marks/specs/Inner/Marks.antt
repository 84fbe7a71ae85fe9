-- No promise of an entry point rests on this text: sets of cells, each cell marked or not, and the cells that every way through a block
-- writes.
use Rattle.std.specs.Prelude.{ℕ, zero, suc, ◌+◌, ◌-◌, ◌≤◌, ◌<◌, ◌≡◌, Bool, true, false, not, ◌&&◌, ◌||◌, List, eqb, length, get_or, Option, None, Some}
use Rattle.model.specs.Inner.Holders.{array_of}
use Rattle.model.specs.Sides.{cell_count, span_of}
use Rattle.model.specs.Records.{stepped}
use Rattle.model.specs.Judging.{always_writes}
use Rattle.reading.specs.declared.Fields.{Fields}
use Rattle.reading.specs.Bytes.{array_count, layout_of}
use Rattle.marks.specs.declared.Declaration.{Declaration}
use Rattle.reading.specs.Inner.Cells.{from_of, to_of, step_of}
use Rattle.format.specs.Plans.{side_of}
use Rattle.format.specs.Inner.Walks.{block_between}

-- whether a set has cell c
unfoldable pub marked : List Bool → ℕ → Bool
marked set c = get_or set c false

-- a set of 4,096 cells that has what it had before, and the cells that pass the test
pub record Adds (before after : List Bool) (test : ℕ → Bool) : Type 0 where
  pub size : length after ≡ 4096
  pub marks : (c : ℕ) → c < 4096 → marked after c ≡ (marked before c || test c)

-- whether it has the n cells from c on
unfoldable pub all_marked : List Bool → ℕ → ℕ → Bool
all_marked set c zero = true
all_marked set c (suc n) = marked set c && all_marked set (suc c) n

-- the first cell of each array, and what is declared of it
pub record Tables (f starts : List ℕ) (declared : List (Option Declaration)) : Type 0 where
  pub starts_are : (a : ℕ) → a ≤ array_count f → get_or starts a 0 ≡ (span_of (layout_of f) a).first
  pub arrays_low : array_count f ≤ 32
  pub cells_low : cell_count (layout_of f) ≤ 4096
  pub sides_low : (a : ℕ) → a < 32 → (d : Declaration) → get_or declared a None ≡ Some d → d.side < 2

-- whether there is a declaration, on side s
abbrev pub on_side : Option Declaration → ℕ → Bool
on_side None s = false
on_side (Some d) s = eqb s d.side

-- whether a record with the fields x writes cell c, if its array is declared on its side
unfoldable pub hits : List ℕ → List (Option Declaration) → Fields → ℕ → Bool
hits starts declared x c =
    let first = get_or starts x.array 0 in
    let next = get_or starts (x.array + 1) 0 in
    eqb x.kind 2 && (on_side (get_or declared x.array None) x.side && stepped (step_of x) (from_of x first) (to_of x first next) c)

-- whether every way through the records r up to `end` writes cell c on the side of a declaration; where there is none, no cell counts
abbrev pub written_by : List ℕ → Option Declaration → ℕ → ℕ → ℕ → Bool
written_by f None r end c = false
written_by f (Some d) r end c = always_writes (layout_of f) (side_of d.side) c (block_between f r end)

-- and on the side on which its array is declared
unfoldable pub always : List ℕ → List (Option Declaration) → ℕ → ℕ → ℕ → Bool
always f declared r end c = written_by f (get_or declared (array_of (layout_of f) c) None) r end c

-- whether a declaration with the fields x is met where the cells of the set are written
unfoldable pub met : List ℕ → List Bool → Fields → Bool
met starts set x = not (eqb x.kind 17) || all_marked set (get_or starts x.array 0) (get_or starts (x.array + 1) 0 - get_or starts x.array 0)
