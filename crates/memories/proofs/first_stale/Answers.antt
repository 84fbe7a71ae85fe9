-- The search stops at a stale copy, and goes on behind one that is current, by the distance that the step's byte says.
use Rattle.std.proofs.Common.{◌≡◌, ◌∙◌, sym, arith}
use Rattle.model.specs.Records.{distance}
use Rattle.memories.proofs.Cells.{distance_each, distance_more, passed_next, passed_stale}
use Rattle.memories.proofs.first_stale.Goals as goal
use Rattle.memories.proofs.first_stale.Goals.{then-step-le1, else-step-le1}

pub returns-then-copies-c : goal.returns-then-copies-c
returns-then-copies-c c = passed_stale c.loop-c.invariant c.loop-c-test.true c.if-copies-c.true

pub loop-c-preserved : goal.loop-c-preserved
loop-c-preserved c =
    let apart : c.if-step-le1.distance ≡ distance c.args.step = elim c.if-step-le1.branch [ then-step-le1 w ↦ w.distance-is ∙ sym (distance_each _ w.if-step-le1.true) | else-step-le1 w ↦ w.distance-is ∙ sym (distance_more _ w.if-step-le1.false) ] in
    rw apart (passed_next c.loop-c.invariant (omega arith) c.loop-c-test.true c.if-copies-c.false)
