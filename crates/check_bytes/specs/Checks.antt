-- Both check sums at once, and those of a front and a back (document 02, 'Bodies before contents').
use Rattle.std.specs.Prelude.{ℕ, ◌+◌, ◌*◌, ◌%◌, List, [], ◌∷◌, length}
use Rattle.sums.specs.Sums.{plain_sum, weighted_sum, first_check, second_check}
use Rattle.check_bytes.specs.declared.Sums.{Sums}

-- the two check sums of any bytes
abbrev pub sums_of : List ℕ → Sums
sums_of s = record { plain = first_check s; weighted = second_check s }

-- the sums of a front and a back, from the front's bytes and the back's sums alone: each byte of the back has a number higher by as many as
-- the front has
unfoldable pub onto : List ℕ → Sums → Sums
onto front back =
    record {
      plain = (plain_sum front + back.plain) % 251;
      weighted = (weighted_sum 1 front + length front * back.plain + back.weighted) % 251;
    }

-- "the same two bytes": those that hold such sums
abbrev pub bytes_of : Sums → List ℕ
bytes_of sums = sums.plain ∷ sums.weighted ∷ []
