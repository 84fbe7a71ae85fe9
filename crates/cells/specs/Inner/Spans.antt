-- No promise of an entry point rests on this text: the cells of one array.
use Rattle.std.specs.Prelude.{ℕ, ◌+◌, ◌<◌, ◌≡◌, List}
use Rattle.model.specs.Sides.{span_of}
use Rattle.reading.specs.Bytes.{array_count, layout_of}

-- an array of the plan, its first cell, and that of the next array
pub record Span (f : List ℕ) (array first next : ℕ) : Type 0 where
  pub one : array < array_count f
  pub begins : first ≡ (span_of (layout_of f) array).first
  pub ends : next ≡ (span_of (layout_of f) (array + 1)).first
