use native.Mathlib.Omega.{arith}
use Rattle.statuses.proofs.acts.start_of.Goals as goal

pub returns-then-scratch : goal.returns-then-scratch
returns-then-scratch c = (omega arith, rw c.if-scratch.true)

pub returns-else-scratch : goal.returns-else-scratch
returns-else-scratch c = (omega arith, rw c.if-scratch.false)
