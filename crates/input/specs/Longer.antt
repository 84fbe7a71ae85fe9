-- Inputs longer than every plan file (document 01, 'The plan file': 32 arrays, 32 bodies and 1,024 records at most).
use Rattle.std.specs.Prelude.{ℕ, ◌<◌, ◌≡◌, List, ◌++◌, length, take}
use Rattle.model.specs.Verdicts.{Accepted}
use Rattle.model.specs.Rows.{Row, answer_of}
use Rattle.format.specs.Opening.{open_rows, opening, opened}

-- the first n bytes of an input decide
pub record Decided (f : List ℕ) (n : ℕ) : Type 0 where
  -- they give what the whole gives, and that is a refusal
  pub same : opened (take n f) ≡ opened f
  pub refuses : opening f ≡ Accepted → ⊥
  -- so every service gives them the answer of the whole, whatever its own rows are behind those of opening
  pub services : (rows whole : List Row) → answer_of (open_rows (take n f) ++ rows) ≡ answer_of (open_rows f ++ whole)

-- CLAIM (proofs/Longer, `longer`): "file length not as the contents say", or an earlier number, of every input of more than 8,390 bytes,
-- and more than 8,390 of its bytes decide which
abbrev pub Longer : Type 0
Longer = (f : List ℕ) (n : ℕ) → 8390 < length f → 8390 < n → Decided f n
