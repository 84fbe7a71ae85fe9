use Rattle.marks.specs.Inner.Marks.{marked}
use Rattle.marks.proofs.Marks.{both_next}
use Rattle.marks.proofs.mark_both.Goals as goal

pub loop-c-preserved : goal.loop-c-preserved
unfolding marked
loop-c-preserved c = both_next c.args.set.now c.args.one.now c.args.two.now c.loop-c.set c.loop-c.c c.loop-c-test.true c.loop-c.invariant
