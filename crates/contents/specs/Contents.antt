-- Numbers 3 to 5 (document 01, 'Numbers by the place where each is checked'): the rows of the contents, and those of header, contents and
-- tail, in the table's order.
use Rattle.std.specs.Prelude.{ℕ, suc, ◌+◌, not, ◌&&◌, ◌||◌, List, [], ◌∷◌, ◌++◌, length, ltb, eqb}
use Rattle.model.specs.Sides.{span_of}
use Rattle.model.specs.Rows.{Row, row, all_rows}
use Rattle.reading.specs.Bytes.{array_count, body_count, length_at, layout_of, records_in, declarations_in, first_record, bodies_at, between, byte_at, entry_at}
use Rattle.frame.specs.Frame.{header_rows, tail_rows}

-- CONTENTS. "4 array length or their total (place: array)": a length is "1 to 4,096, together at most 4,096"; "Number 4 reads the length
-- without that bit." (document 02)
unfoldable pub array_rows : List ℕ → ℕ → List Row
array_rows f a =
    row (not (between 1 4096 (length_at f a)) || ltb 4096 (span_of (layout_of f) (suc a)).first) 4 a ∷ []

-- "5 body entry: fourth byte not zero, more declarations than records, declarations in body 0, total too large (place: body)"
unfoldable pub entry_rows : List ℕ → ℕ → List Row
entry_rows f b =
    row
    (not (eqb (byte_at f (entry_at f b + 3)) 0)
    || ltb (records_in f b) (declarations_in f b)
    || (eqb b 0 && not (eqb (declarations_in f b) 0))
    || ltb 1024 (first_record f (suc b))) 5 b ∷ []

-- "3 file ends inside; 4 ..; 5 .."
unfoldable pub contents_rows : List ℕ → List Row
contents_rows f =
    row (ltb (length f) (bodies_at f)) 3 0
    ∷ (all_rows (array_count f) (array_rows f) ++ all_rows (body_count f) (entry_rows f))

-- "Places are tried in this order": header, contents, tail
unfoldable pub front_rows : List ℕ → List Row
front_rows f = header_rows f ++ (contents_rows f ++ tail_rows f)
