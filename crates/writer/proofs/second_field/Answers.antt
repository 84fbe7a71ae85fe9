-- `writer::second_field` gives Q of a branch grown to fit, and of any other record as it is.
use mathlib.Core.Path.{◌∙◌}
use native.Mathlib.Omega.{arith}
use borrow.Author.Tests.{eq-eqb, ne_eqb}
use Rattle.sizes.specs.Inner.Sizes.{second_field}
use Rattle.writer.specs.Inner.Pieces.{grown_second}
use Rattle.writer.proofs.second_field.Goals as goal

pub returns-else-x-eq-BRANCH : goal.returns-else-x-eq-BRANCH
unfolding grown_second second_field
returns-else-x-eq-BRANCH c = rw (ne_eqb c.args.x.kind 6 c.if-x-eq-BRANCH.false)

pub grown-requires : goal.grown-requires
grown-requires c = let a = c.requires in rw (c.first_arm.ensures.arm, c.second_arm.ensures.arm) (omega (arith, a.inside), a.two_rises, a.low)

pub returns-then-x-eq-BRANCH : goal.returns-then-x-eq-BRANCH
unfolding grown_second second_field
returns-then-x-eq-BRANCH c = c.grown.ensures ∙ rw (c.first_arm.ensures.arm, c.second_arm.ensures.arm, eq-eqb c.args.x.kind 6 c.if-x-eq-BRANCH.true)
