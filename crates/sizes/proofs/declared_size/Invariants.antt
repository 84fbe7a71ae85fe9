-- `sizes::declared_size` counts the records that declarations give. The invariant: n counts those of the first i.
use mathlib.Core.Path.{◌≡◌}
use Rattle.model.specs.Blocks.{size}
use Rattle.files.specs.Inner.Given.{declared_from}
use Rattle.sizes.proofs.declared_size.Given as goal

abbrev pub invariant-loop-i : goal.invariant-loop-i
invariant-loop-i l = l.n ≡ size (declared_from l.plan l.from l.i)
