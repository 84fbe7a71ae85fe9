-- What is proved of plans and their files: each theorem that a reader relies on, by name, with the place of its proof.
use Rattle.std.specs.Prelude.{ℕ, ◌<◌, ◌≡◌, true, List}
use Rattle.model.specs.Verdicts.{Accepted}
use Rattle.model.specs.Lists.{All}
use Rattle.model.specs.Blocks.{Plan}
use Rattle.model.specs.Judging.{DeclaredPlan}
use Rattle.reading.specs.Bytes.{is_declared, is_plain}
use Rattle.format.specs.Opening.{opening}
use Rattle.format.specs.Plans.{plan_of, declared_plan_of}
use Rattle.files.specs.Files.{plain_file}
use Rattle.files.specs.Bounds.{declared_file, plain_fits, declared_fits, numbered_plan, numbered_declared}

-- a list of bytes
abbrev pub Bytes : List ℕ → Type 0
Bytes l = All (λ x. x < 256) l

-- CLAIM (proofs/Claims, `plain`): the file of a plain plan within the bounds is of bytes, opens, and is that plan, its records numbered as
-- the file numbers them
abbrev pub ClaimPlainFile : Type 0
ClaimPlainFile = (plan : Plan) → plain_fits plan ≡ true →
    Bytes (plain_file plan)
    × (opening (plain_file plan) ≡ Accepted)
    × (is_plain (plain_file plan) ≡ true)
    × (plan_of (plain_file plan) ≡ numbered_plan plan)

-- CLAIM (proofs/Claims, `declared`): the same of a declared plan
abbrev pub ClaimDeclaredFile : Type 0
ClaimDeclaredFile = (plan : DeclaredPlan) → declared_fits plan ≡ true →
    Bytes (declared_file plan)
    × (opening (declared_file plan) ≡ Accepted)
    × (is_declared (declared_file plan) ≡ true)
    × (declared_plan_of (declared_file plan) ≡ numbered_declared plan)
