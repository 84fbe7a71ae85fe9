-- The blocks so far are current.
use Rattle.std.proofs.Common.{◌+◌, ◌*◌}
use Rattle.memories.specs.Inner.Ranges.{CurrentTo}
use Rattle.memories.proofs.blocks_current.Given as goal

abbrev pub invariant-loop-block : goal.invariant-loop-block
invariant-loop-block l = CurrentTo l.copies l.latest l.from l.to (l.from + 8 * l.block)
