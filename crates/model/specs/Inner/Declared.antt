-- No promise of an entry point rests on this text: an empty pass, a declaration from its parts, and the records that declarations give
-- before the rest.
use Rattle.std.specs.Prelude.{ℕ, Bool, ◌&&◌, eqb}
use mathlib.Core.List.{List, [], foldr}
use Rattle.model.specs.Lists.{any}
use Rattle.model.specs.Sides.{Side, same_side}
use Rattle.model.specs.Records.{Action}
use Rattle.model.specs.Blocks.{Block}
use Rattle.model.specs.Judging.{Mode, Declaration, Pass}
use Rattle.model.specs.Expanding.{given}

-- a pass of no records
abbrev pub no_pass : Pass
no_pass = record { declarations = []; body = Block.done }

abbrev pub declaration : Mode → Side → ℕ → Declaration
declaration m s a = record { mode = m; side = s; array = a }

abbrev pub declared : List Declaration → Block Action → Block Action
declared ds rest = foldr given rest ds

-- whether the declarations have array a on side s, with such a mode
abbrev pub declares : (Mode → Bool) → Side → ℕ → List Declaration → Bool
declares fits s a ds = any (λ (d : Declaration). fits d.mode && (same_side d.side s && eqb d.array a)) ds
