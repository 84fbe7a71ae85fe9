use borrow.Author.Tests.{eq-eqb, ne_eqb}
use Rattle.standing.specs.Inner.Standing.{tested}
use Rattle.places.proofs.Places.{chosen_depth}
use Rattle.std.proofs.Common.{rules}
use Rattle.standing.proofs.Machine.test.Goals as goal

pub settle-requires : goal.settle-requires
settle-requires c = let h = chosen_depth _ _ _ _ c.choose-q.ensures c.requires.0 in search (rules, h)

pub returns : goal.returns
unfolding tested
returns c = rw (ne_eqb _ _ c.if-used-choices.false, ← c.choose-q.ensures, ← c.settle.ensures) (c.moved.ensures _)

pub returns-then-used-choices : goal.returns-then-used-choices
unfolding tested
returns-then-used-choices c = rw (eq-eqb _ _ c.if-used-choices.true) (c.ended.ensures _)
