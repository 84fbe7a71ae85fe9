-- No promise of an entry point rests on this text: what those who walk the records of a file that opens ask of it.
use Rattle.std.specs.Prelude.{◌≡◌, true, List, ℕ, ◌+◌, ◌≤◌, get_or}
use Rattle.model.specs.Verdicts.{Accepted}
use Rattle.model.specs.Sides.{span_of}
use Rattle.model.specs.Records.{Action}
use Rattle.model.specs.Blocks.{Block}
use Rattle.model.specs.Rows.{answer_of}
use Rattle.reading.specs.declared.Fields.{Fields}
use Rattle.reading.specs.Bytes.{is_plain, array_count, layout_of, bodies_at, fields_at}
use Rattle.records.specs.Records.{block_rows}
use Rattle.format.specs.Opening.{opening}
use Rattle.format.specs.Plans.{action_of, block_of}

-- the file opens and its plan is plain; `bodies` is where its bodies begin
pub record Plain (f : List ℕ) (bodies : ℕ) : Type 0 where
  pub opens : Accepted ≡ opening f
  pub plain : is_plain f ≡ true
  pub place : bodies ≡ bodies_at f

-- the first cell of each array, and after the last array the number of cells
pub record Starts (f : List ℕ) (starts : List ℕ) : Type 0 where
  pub first : (a : ℕ) → a ≤ array_count f → get_or starts a 0 ≡ (span_of (layout_of f) a).first

-- the records r up to `end` of body b, inside `depth` branches and loops whose counts have the product `around`, all pass their tests
pub record Good (f : List ℕ) (b depth around r end : ℕ) : Type 0 where
  pub fuel : ℕ
  pub enough : end ≤ r + fuel
  pub passes : Accepted ≡ answer_of (block_rows fuel f b depth around r end)

-- the same, whatever their body, their depth and that product
pub record Walkable (f : List ℕ) (r end : ℕ) : Type 0 where
  pub body : ℕ
  pub depth : ℕ
  pub around : ℕ
  pub good : Good f body depth around r end

-- the block of the records r up to `end`, of actions and of calls
unfoldable pub block_between : List ℕ → ℕ → ℕ → Block Action
block_between f r end = block_of action_of end (fields_at f) r end

-- the body that a call calls
abbrev pub call_of : Fields → ℕ
call_of x = x.p

unfoldable pub body0_between : List ℕ → ℕ → ℕ → Block ℕ
body0_between f r end = block_of call_of end (fields_at f) r end
