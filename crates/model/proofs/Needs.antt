-- What a need comes to, by its array's flag: every proof about needs goes by these two.
use mathlib.Core.Path.{◌≡◌}
use mathlib.Core.Bool.{true, false}
use Rattle.model.specs.Sides.{Side, other}
use Rattle.model.specs.Records.{need}
use Rattle.model.specs.Effects.{Flags, nothing, moves, comes_to}

pub flag_set : (s : Side) (f : Flags) → f.flag s ≡ true → comes_to need s f ≡ (nothing, f)
flag_set s f e = rw e

pub flag_clear : (s : Side) (f : Flags) → f.flag s ≡ false → comes_to need s f ≡ (moves (other s) s, record { flag = λ t. true })
flag_clear s f e = rw e
