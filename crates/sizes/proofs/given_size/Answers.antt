-- `sizes::given_size` counts the records that a declaration gives.
use mathlib.Core.Path.{sym, ◌∙◌}
use Rattle.files.proofs.Given.{given_size}
use Rattle.sizes.proofs.given_size.Goals as goal

pub returns-then-x : goal.returns-then-x
returns-then-x c = sym (given_size c.args.x ∙ rw c.if-x.true)

pub returns-else-x : goal.returns-else-x
returns-else-x c = sym (given_size c.args.x ∙ rw c.if-x.false)
