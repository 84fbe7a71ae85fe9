-- The two sums packed into 64 bits, for callers in C and Rust.
use Rattle.std.specs.Prelude.{ℕ, ◌+◌, ◌*◌, ◌/◌, ◌%◌, ◌^◌, List}
use Rattle.check_bytes.specs.Checks.{sums_of, onto}
use Rattle.check_bytes.specs.declared.Sums.{Sums}

-- the plain sum in bits 0 to 15, the weighted sum in 16 to 31
abbrev pub packed : Sums → ℕ
packed sums = sums.plain + 2 ^ 16 * sums.weighted

-- the answer of `plan_back_sums`: the two check sums of the bytes, which may be a file up to its check bytes or the back of one
abbrev pub packed_back_sums : List ℕ → ℕ
packed_back_sums back = packed (sums_of back)

-- the sums that a number of any value stands for: each field counts modulo 251, and bits from 32 on for nothing
abbrev pub unpacked : ℕ → Sums
unpacked n = record { plain = n % 2 ^ 16 % 251; weighted = n / 2 ^ 16 % 2 ^ 16 % 251 }

-- the answer of `plan_joined_sums`: the two check sums of a front and a back that has the sums in this number
abbrev pub packed_joined_sums : List ℕ → ℕ → ℕ
packed_joined_sums front back = packed (onto front (unpacked back))
