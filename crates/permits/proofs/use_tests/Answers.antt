-- `permits::use_tests` answers numbers 13 and 14 of a record.
use Rattle.model.proofs.Rows.{holds, skips, empty}
use Rattle.permits.specs.Inner.Uses.{use_rows}
use Rattle.permits.proofs.use_tests.Goals as goal

pub returns-then-x-allowed : goal.returns-then-x-allowed
unfolding use_rows
returns-then-x-allowed c = holds _ _ _ _ (rw c.permitted-allowed.ensures at c.if-x-allowed.true)

pub returns-then-x : goal.returns-then-x
unfolding use_rows
returns-then-x c = skips _ _ _ _ _ (rw c.permitted-allowed.ensures at c.if-x-allowed.false) (holds _ _ _ _ c.if-x.true)

pub returns : goal.returns
unfolding use_rows
returns c = skips _ _ _ _ _ (rw c.permitted-allowed.ensures at c.if-x-allowed.false) (skips _ _ _ _ _ c.if-x.false empty)
