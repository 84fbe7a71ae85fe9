-- The stamps of a memory (document 01, 'Sides, cells, stamps').
use Rattle.std.specs.Prelude.{ℕ}
use Rattle.model.specs.Sides.{Stamp, never, at}

-- a stamp in a memory: "the card holds 2^64 − 1", which is never
abbrev pub number_of : Stamp → ℕ
number_of never = 18446744073709551615
number_of (at k) = k
