use Rattle.memories.proofs.Cells.{same_twice}
use Rattle.machine.proofs.Steps.{goes_on}
use Rattle.steps.proofs.run_lent.Goals as goal

pub loop-n-preserved : goal.loop-n-preserved
loop-n-preserved c =
    let s = c.step_lent-n.ensures in
    let l = c.loop-n.invariant in
    record { reaches = goes_on l.reaches s.0; host = same_twice l.host s.2; card = same_twice l.card s.3; latest = same_twice l.latest s.4 }
