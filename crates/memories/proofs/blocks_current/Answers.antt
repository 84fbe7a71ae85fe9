-- A block more is the same in both memories.
use Rattle.std.proofs.Common.{◌≡◌, ◌+◌, ◌*◌, arith}
use Rattle.memories.proofs.Cells.{block_current}
use Rattle.memories.proofs.blocks_current.Goals as goal

pub loop-block-preserved : goal.loop-block-preserved
loop-block-preserved c =
    let more = block_current (omega arith) (omega arith) c.requires.0.inside c.loop-block.invariant (c.same.ensures c.if-not-same.false) in
    let next : c.args.from + 8 * c.loop-block.block + 8 ≡ c.args.from + 8 * (c.loop-block.block + 1) = omega arith in
    rw next at more
