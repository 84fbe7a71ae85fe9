-- No promise of an entry point rests on this text: what the declarations of a pass give, as a block.
use Rattle.std.specs.Prelude.{ℕ, ◌+◌, List}
use Rattle.model.specs.Records.{Action}
use Rattle.model.specs.Blocks.{Block}
use Rattle.model.specs.Expanding.{given}
use Rattle.model.specs.Inner.Declared.{declared}
use Rattle.reading.specs.declared.Fields.{Fields}
use Rattle.reading.specs.Bytes.{table, fields_at}
use Rattle.format.specs.Plans.{declaration_of}

-- what a declaration with the fields x gives
unfoldable pub given_by : Fields → Block Action
given_by x = given (declaration_of x) Block.done

-- what the n declarations from record r on give
unfoldable pub declared_from : List ℕ → ℕ → ℕ → Block Action
declared_from f r n = declared (table (λ i. declaration_of (fields_at f (r + i))) n) Block.done
