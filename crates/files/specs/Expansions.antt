-- The expansion of the plan that a file is, and its file (document 01, 'Judging and expanding').
use Rattle.std.specs.Prelude.{ℕ, List}
use Rattle.model.specs.Blocks.{Plan}
use Rattle.model.specs.Expanding.{expansion}
use Rattle.format.specs.Plans.{declared_plan_of}
use Rattle.files.specs.Files.{plain_file}

-- the expansion of the plan that a file is
abbrev pub expansion_of : List ℕ → Plan
expansion_of f = expansion (declared_plan_of f)

-- "the expansion's file": a plain plan's
abbrev pub expansion_file : List ℕ → List ℕ
expansion_file f = plain_file (expansion_of f)
