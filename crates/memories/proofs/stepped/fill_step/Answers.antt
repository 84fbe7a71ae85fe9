-- The cell at `at` is stored, and those behind it are left.
use Rattle.memories.proofs.Cells.{storing_next}
use Rattle.memories.proofs.stepped.fill_step.Goals as goal

pub loop-at-preserved : goal.loop-at-preserved
loop-at-preserved c = storing_next c.loop-at.invariant c.requires.0.0 c.loop-at-test.true c.requires.1.inside
