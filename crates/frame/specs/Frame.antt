-- Numbers 1, 2, 6 and 7 (document 01, 'Numbers by the place where each is checked'): the rows of header and tail, in the table's order.
use Rattle.std.specs.Prelude.{ℕ, ◌+◌, ◌*◌, ◌-◌, Bool, not, ◌&&◌, ◌||◌, List, [], ◌∷◌, length, take, ltb, eqb}
use Rattle.model.specs.Rows.{Row, row}
use Rattle.sums.specs.Sums.{first_check, second_check}
use Rattle.reading.specs.Bytes.{byte_at, kind_of, is_declared, array_count, body_count, record_count, bodies_at, between}

-- HEADER. "Byte 0: kind, 1 declared, 2 plain. Byte 1: arrays, 1 to 32. Byte 2: bodies, 1 to 32, for a plain plan 1. Byte 3: zero."
unfoldable pub header_fits : List ℕ → Bool
header_fits f =
    between 1 2 (kind_of f) && between 1 32 (array_count f) && between 1 32 (body_count f)
    && (is_declared f || eqb (body_count f) 1) && eqb (byte_at f 3) 0

-- "1 under 4 bytes; 2 a header byte against its rule"
unfoldable pub header_rows : List ℕ → List Row
header_rows f =
    row (ltb (length f) 4) 1 0
    ∷ row (not (header_fits f)) 2 0 ∷ []

-- TAIL. whether the last two bytes are the check bytes of those before them
unfoldable pub checks_fit : List ℕ → Bool
checks_fit f =
    let n = length f - 2 in
    eqb (byte_at f n) (first_check (take n f)) && eqb (byte_at f (n + 1)) (second_check (take n f))

-- "6 file length not as the contents say; 7 check bytes"
unfoldable pub tail_rows : List ℕ → List Row
tail_rows f =
    row (not (eqb (length f) (bodies_at f + 8 * record_count f + 2))) 6 0
    ∷ row (not (checks_fit f)) 7 0 ∷ []
