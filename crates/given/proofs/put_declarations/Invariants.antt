-- `given::put_declarations` writes what declarations give. The invariant: what the first i give is there, and n counts it.
use mathlib.Core.Path.{◌≡◌}
use lib.ListN.{length}
use Rattle.model.specs.Blocks.{size}
use Rattle.files.specs.Inner.Short.{block_fields}
use Rattle.files.specs.Inner.Given.{declared_from}
use Rattle.given.specs.Inner.Over.{over, bytes_of}
use Rattle.given.proofs.put_declarations.Given as goal

abbrev pub invariant-loop-i : goal.invariant-loop-i
invariant-loop-i l =
    (l.n ≡ size (declared_from l.plan l.from l.i)) × (length l.out ≡ length l.initial.out) × (l.out ≡ over (bytes_of (block_fields (declared_from l.plan l.from l.i))) l.initial.out)
