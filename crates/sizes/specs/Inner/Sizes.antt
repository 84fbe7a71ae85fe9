-- No promise of an entry point rests on this text: how many records the expansion has for each record of body 0.
use Rattle.std.specs.Prelude.{ℕ, zero, suc, ◌+◌, ◌≤◌, ◌<◌, ◌≡◌, true, cond, List, eqb, get_or}
use Rattle.model.specs.Verdicts.{Accepted}
use Rattle.model.specs.Records.{Action}
use Rattle.model.specs.Blocks.{Block, size}
use Rattle.model.specs.Inner.Declared.{declared}
use Rattle.reading.specs.declared.Fields.{Fields}
use Rattle.reading.specs.Bytes.{is_declared, body_count, records_in, fields_at}
use Rattle.format.specs.Opening.{opening}
use Rattle.format.specs.Plans.{pass_at}

-- a file that opens as a declared plan
pub record DeclaredFile (f : List ℕ) : Type 0 where
  pub opened : Accepted ≡ opening f
  pub declared : is_declared f ≡ true

-- what stands for a call of body b: what the pass's declarations give, and then its other records
unfoldable pub called : List ℕ → ℕ → Block Action
called f b = declared (pass_at f b).declarations (pass_at f b).body

-- Q of a branch or a loop with the fields x: n, the records of a branch's second arm; a loop and a fixed loop keep theirs
unfoldable pub second_field : Fields → ℕ → ℕ
second_field x n = cond (eqb x.kind 6) n x.q

-- how many records stand for record r of body 0
unfoldable pub record_size : List ℕ → ℕ → ℕ
record_size f r = cond (eqb (fields_at f r).kind 8) (size (called f (fields_at f r).p)) 1

-- how many stand for the records before r
unfoldable pub place : List ℕ → ℕ → ℕ
place f zero = 0
place f (suc r) = place f r + record_size f r

-- how many records a call of each pass becomes
pub record PassSizes (f : List ℕ) (sizes : List ℕ) : Type 0 where
  pub each : (b : ℕ) → 1 ≤ b → b < body_count f → get_or sizes b 0 ≡ size (called f b)

-- the places of body 0's records, and after the last the size of the expansion
pub record Places (f : List ℕ) (places : List ℕ) : Type 0 where
  pub each : (r : ℕ) → r ≤ records_in f 0 → get_or places r 0 ≡ place f r
