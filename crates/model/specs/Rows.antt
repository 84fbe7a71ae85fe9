-- The table of numbers (document 01, 'Numbers by the place where each is checked'): an answer is the first row whose condition holds.
use Rattle.std.specs.Prelude.{ℕ, zero, suc, Bool, cond, List, [], ◌∷◌, ◌++◌}
use Rattle.model.specs.Verdicts.{Verdict, Accepted, Refused}

-- a row: its condition, its number, its place
pub data Row : Type 0 where
  row : Bool → ℕ → ℕ → Row

-- "Each is returned where its condition holds and no earlier one does"
unfoldable pub answer_of : List Row → Verdict
answer_of [] = Accepted
answer_of (row holds number place ∷ rows) = cond holds (Refused number place) (answer_of rows)

-- the rows of the entries 0, 1, .. below n: "entries and records ascending"
unfoldable pub all_rows : ℕ → (ℕ → List Row) → List Row
all_rows zero rows = []
all_rows (suc n) rows = all_rows n rows ++ rows n
