use Rattle.tracked.proofs.touch_by.Goals as goal

pub returns-then-step-eq1 : goal.returns-then-step-eq1
returns-then-step-eq1 c = rw c.if-step-eq1.true c.touch.ensures
