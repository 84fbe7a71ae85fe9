-- The check bytes (document 01, 'The plan file').
use Rattle.std.specs.Prelude.{ℕ, suc, ◌+◌, ◌*◌, ◌%◌, List, [], ◌∷◌}

-- "the sum of all bytes"
unfoldable pub plain_sum : List ℕ → ℕ
plain_sum [] = 0
plain_sum (x ∷ xs) = x + plain_sum xs

-- "the sum of number × byte", where the first byte has the number k
unfoldable pub weighted_sum : ℕ → List ℕ → ℕ
weighted_sum k [] = 0
weighted_sum k (x ∷ xs) = k * x + weighted_sum (suc k) xs

-- "with bytes numbered from 1 up to the check bytes, the sum of all bytes modulo 251"
abbrev pub first_check : List ℕ → ℕ
first_check s = plain_sum s % 251

-- "then the sum of number × byte modulo 251"
abbrev pub second_check : List ℕ → ℕ
second_check s = weighted_sum 1 s % 251

-- "Last two check bytes"
unfoldable pub check_bytes : List ℕ → List ℕ
check_bytes s = first_check s ∷ second_check s ∷ []
