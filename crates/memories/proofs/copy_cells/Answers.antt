-- The cell at c is stored, and those behind it are left.
use Rattle.std.proofs.Common.{arith}
use Rattle.memories.proofs.Cells.{storing_none, storing_next, storing_all}
use Rattle.memories.proofs.copy_cells.Goals as goal

pub loop-c-preserved : goal.loop-c-preserved
loop-c-preserved c = storing_next c.loop-c.invariant (omega arith) c.loop-c-test.true c.requires.1.inside

pub returns : goal.returns
returns c = storing_all c.loop-c.invariant (omega arith)
