-- Numbers 8 to 10 (document 01, 'Numbers by the place where each is checked') and 26 (document 02): the rows of all records, in order.
use Rattle.std.specs.Prelude.{ℕ, zero, suc, ◌+◌, ◌*◌, cond, List, [], ◌++◌, ltb}
use Rattle.model.specs.Rows.{Row}
use Rattle.reading.specs.Bytes.{records_in, first_record, fields_at, first_arm, second_arm, turns_of}
use Rattle.rules.specs.Rules.{record_rows}

-- the records r up to `end`, "a record gets all its tests before the next one": a record, its first arm, its second arm, the rest
-- (`fuel` is at least the number of records, `around` the product of the counts of the fixed loops that hold them)
unfoldable pub block_rows : ℕ → List ℕ → ℕ → ℕ → ℕ → ℕ → ℕ → List Row
block_rows zero f b depth around r end = []
block_rows (suc fuel) f b depth around r end =
    let second = r + 1 + first_arm (fields_at f r) in
    let next = second + second_arm (fields_at f r) in
    let arm = block_rows fuel f b (depth + 1) (around * turns_of (fields_at f r)) in
    let rest = block_rows fuel f b depth around next end in
    cond (ltb r end) (record_rows f b depth around r end ++ (arm (r + 1) second ++ (arm second next ++ rest))) []

-- the records of body b
unfoldable pub body_rows : List ℕ → ℕ → List Row
body_rows f b = block_rows (records_in f b) f b 0 1 (first_record f b) (first_record f (suc b))
