-- Sides, cells, stamps (document 01, 'Sides, cells, stamps'; document 02, request f).
use Rattle.std.specs.Prelude.{ℕ, ◌+◌, Bool, false, ◌&&◌, List, length, get_or, ltb, leb, eqb}
use Rattle.model.specs.Lists.{any, sum, sum_before, some_below}

-- "Side 0 is the host, side 1 the card."
pub data Side : Type 0 where
  host card : Side

-- "the other side"
abbrev pub other : Side → Side
other host = card
other card = host

-- a side's number in the file
abbrev pub side_number : Side → ℕ
side_number host = 0
side_number card = 1

-- whether two sides are the same
abbrev pub same_side : Side → Side → Bool
same_side s t = eqb (side_number s) (side_number t)

-- "stamps are whole numbers without limit and "never" equals none of them"
pub data Stamp : Type 0 where
  never : Stamp
  at : ℕ → Stamp

-- whether a copy equals stamp k
abbrev pub equals : Stamp → ℕ → Bool
equals never k = false
equals (at j) k = eqb j k

-- what a plan's contents say, and its records refer to: "per array its length", and whether its "highest bit .. marks scratch"
pub record Layout : Type 0 where
  pub lengths : List ℕ
  pub scratch : List Bool

-- "Cells are numbered from 0 through all arrays in order": how many there are
abbrev pub cell_count : Layout → ℕ
cell_count layout = sum layout.lengths

-- neighbouring cells: the first one's number, and how many there are
pub record Span : Type 0 where
  pub first : ℕ
  pub length : ℕ

-- the cells of name n: a name is what a record or a declaration speaks of, here array n
abbrev pub span_of : Layout → ℕ → Span
span_of layout n = record { first = sum_before layout.lengths n; length = get_or layout.lengths n 0 }

-- whether cell c is one of them
abbrev pub in_span : Span → ℕ → Bool
in_span these c = leb these.first c && ltb c (these.first + these.length)

-- whether array n is scratch: one of the "Grids nobody has filled"
abbrev pub is_scratch : Layout → ℕ → Bool
is_scratch layout n = get_or layout.scratch n false

-- whether a plan has such an array
abbrev pub has_scratch : Layout → Bool
has_scratch layout = any (λ b. b) layout.scratch

-- whether cell c is a cell of such an array
abbrev pub scratch_cell : Layout → ℕ → Bool
scratch_cell layout c = some_below (λ n. is_scratch layout n && in_span (span_of layout n) c) (length layout.lengths)
