use borrow.Author.Tests.{eq-eqb, ne_eqb}
use Rattle.places.specs.Inner.Places.{into}
use Rattle.places.proofs.Place.into_arm.Goals as goal

pub returns-then-at-end : goal.returns-then-at-end
unfolding into
returns-then-at-end c = rw (eq-eqb _ _ c.if-at-end.true) (c.skip.ensures _)

pub returns : goal.returns
unfolding into
returns c = rw (ne_eqb _ _ c.if-at-end.false) c.enter.ensures
