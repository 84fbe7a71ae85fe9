-- No promise of an entry point rests on this text: the marks at the cells that a record tells apart from the cell before them.
use Rattle.std.specs.Prelude.{ℕ, suc, ◌<◌, ◌≡◌, List, length, get_or}
use Rattle.model.specs.Sides.{span_of}
use Rattle.model.specs.Records.{stepped}
use Rattle.reading.specs.Bytes.{layout_of, fields_at}
use Rattle.lookahead.specs.Inner.Ahead.{cell_at, covers}

-- the marks from before and those for the numbers `from`, `from` + k and so on below `to`: a number without a mark is one of these exactly
-- if the number before it is
pub record Edged (k from to : ℕ) (before after : List ℕ) : Type 0 where
  pub size : length after ≡ 4097
  pub kept : (n : ℕ) → get_or before n 0 ≡ 1 → get_or after n 0 ≡ 1
  pub alike : (n : ℕ) → (get_or after (suc n) 0 ≡ 1 → ⊥) → stepped k from to (suc n) ≡ stepped k from to n

-- 4097 marks, and a cell without one is not told apart from the cell before it in its array: each record before r covers both or neither
pub record Marked (f : List ℕ) (r : ℕ) (marks : List ℕ) : Type 0 where
  pub size : length marks ≡ 4097
  pub alike : (array offset : ℕ) → suc offset < (span_of (layout_of f) array).length → (get_or marks (cell_at f array (suc offset)) 0 ≡ 1 → ⊥) →
      (k : ℕ) → k < r → covers (fields_at f k) array (suc offset) ≡ covers (fields_at f k) array offset
