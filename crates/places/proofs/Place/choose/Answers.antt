use borrow.Author.Tests.{eq-eqb, ne_eqb}
use Rattle.places.specs.Inner.Places.{chosen}
use Rattle.places.proofs.Place.choose.Goals as goal

pub returns-then-choice-eq0 : goal.returns-then-choice-eq0
unfolding chosen
returns-then-choice-eq0 c = rw (eq-eqb _ 6 c.if-x-eq-BRANCH.true, eq-eqb _ 0 c.if-choice-eq0.true, ← c.second_arm.ensures.arm, ← c.first_arm.ensures.arm) c.into_arm.ensures

pub returns-then-x-eq-BRANCH : goal.returns-then-x-eq-BRANCH
unfolding chosen
returns-then-x-eq-BRANCH c = rw (eq-eqb _ 6 c.if-x-eq-BRANCH.true, ne_eqb _ 0 c.if-choice-eq0.false, ← c.second_arm.ensures.arm, ← c.first_arm.ensures.arm) c.into_arm-then-x-eq-BRANCH.ensures

pub returns-then-choice-eq0-2 : goal.returns-then-choice-eq0-2
unfolding chosen
returns-then-choice-eq0-2 c = rw (ne_eqb _ 6 c.if-x-eq-BRANCH.false, eq-eqb _ 0 c.if-choice-eq0-2.true, ← c.second_arm.ensures.arm, ← c.first_arm.ensures.arm) (c.skip.ensures _)

pub returns : goal.returns
unfolding chosen
returns c = rw (ne_eqb _ 6 c.if-x-eq-BRANCH.false, ne_eqb _ 0 c.if-choice-eq0-2.false, ← c.first_arm.ensures.arm) c.into_arm-2.ensures
