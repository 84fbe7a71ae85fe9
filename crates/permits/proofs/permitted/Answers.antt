-- `permits::permitted` is the definition's test.
use Rattle.permits.specs.Inner.Uses.{permitted}
use Rattle.permits.proofs.permitted.Goals as goal

pub returns-in_default : goal.returns-in_default
unfolding permitted
returns-in_default c = rw c.in_default.is

pub returns : goal.returns
unfolding permitted
returns c = rw c.in-Some.is
