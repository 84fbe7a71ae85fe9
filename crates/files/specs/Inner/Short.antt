-- No promise of an entry point rests on this text: short words for blocks of actions and for passes.
use Rattle.std.specs.Prelude.{ℕ, Bool, List, map}
use Rattle.model.specs.Lists.{sum}
use Rattle.model.specs.Sides.{Layout}
use Rattle.model.specs.Records.{Action}
use Rattle.model.specs.Blocks.{Block}
use Rattle.model.specs.Judging.{Pass}
use Rattle.reading.specs.declared.Fields.{Fields}
use Rattle.files.specs.Files.{action_fields, fields_of}
use Rattle.files.specs.Bounds.{action_fits, nested_within, pass_size}

-- the fields of a block of actions
abbrev pub block_fields : Block Action → List Fields
block_fields b = fields_of action_fields b

-- such a block fits, with branches and loops at most so many levels deep
abbrev pub block_fits : Layout → ℕ → Block Action → Bool
block_fits layout levels b = nested_within (action_fits layout) levels b

-- the records of all passes
abbrev pub passes_size : List Pass → ℕ
passes_size ps = sum (map pass_size ps)
