use borrow.Author.Tests.{eq-eqb, ne_eqb}
use Rattle.tracked.specs.Inner.Tracking.{after_by}
use Rattle.tracked.proofs.masks.after.Goals as goal

pub returns-then-w-m-eq0 : goal.returns-then-w-m-eq0
unfolding after_by
returns-then-w-m-eq0 c = rw (eq-eqb _ 0 c.if-w-m-eq0.true)

pub returns-else-w-m-eq0 : goal.returns-else-w-m-eq0
unfolding after_by
returns-else-w-m-eq0 c = rw (ne_eqb _ 0 c.if-w-m-eq0.false)
