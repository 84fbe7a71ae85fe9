-- No promise of an entry point rests on this text: which cells a record covers, where its array begins at cell `first` and ends before cell
-- `next`.
use Rattle.std.specs.Prelude.{ℕ, ◌+◌, cond, leb}
use Rattle.model.specs.Records.{distance}
use Rattle.reading.specs.declared.Fields.{Fields}

-- "1 read, 2 write, 3 copy: cells P to Q − 1 of the array": the first; a need or a mark is of the whole array
abbrev pub from_of : Fields → ℕ → ℕ
from_of x first = cond (leb x.kind 3) (first + x.p) first

-- the cell after the last
abbrev pub to_of : Fields → ℕ → ℕ → ℕ
to_of x first next = cond (leb x.kind 3) (first + x.q) next

-- how far apart they are; a need or a mark takes each cell of its array
abbrev pub step_of : Fields → ℕ
step_of x = cond (leb x.kind 3) (distance x.step) 1
