-- `marks::mark_record` marks the cells of a write on the side for its array, and of another record none.
use native.Mathlib.Omega.{arith}
use Rattle.marks.proofs.Marks.{hits_other, hits_undeclared, hits_side, hits_write}
use borrow.Author.Tests.{le-leb}
use Rattle.std.proofs.Common.{rules}
use Rattle.marks.proofs.mark_record.Goals as goal

pub returns-then-x-ne-WRITE : goal.returns-then-x-ne-WRITE
returns-then-x-ne-WRITE c = hits_other _ _ _ _ c.requires.0 c.if-x-ne-WRITE.true

pub cells_of-requires : goal.cells_of-requires
cells_of-requires c = (c.requires.1 c.if-x-ne-WRITE.false).0

pub mark-requires : goal.mark-requires
mark-requires c =
    let w = c.requires.1 c.if-x-ne-WRITE.false in
    let k = le-leb c.args.x.kind 3 (omega arith) in
    let last = rw k at c.cells_of.ensures.to in
    let step = rw k at c.cells_of.ensures.step in
    (c.requires.0, omega arith, omega arith, omega arith)

pub returns-in_default : goal.returns-in_default
returns-in_default c = hits_undeclared _ _ _ _ c.requires.0 (rw c.from.ensures at c.in_default.is)

pub returns-then-x-d : goal.returns-then-x-d
returns-then-x-d c = hits_write _ _ _ _ _ (rw c.from.ensures at c.in-Some.is) c.if-x-ne-WRITE.false c.if-x-d.true _ _ c.cells_of.ensures.from c.cells_of.ensures.to _ c.cells_of.ensures.step _ c.mark.ensures

pub returns-else-x-d : goal.returns-else-x-d
returns-else-x-d c = hits_side _ _ _ _ _ (rw c.from.ensures at c.in-Some.is) c.requires.0 c.if-x-d.false
