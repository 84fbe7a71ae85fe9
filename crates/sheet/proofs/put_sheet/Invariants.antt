-- Before record r the figures of the records before it are put, and the counts give those that follow.
use Rattle.sheet.proofs.Filling.{Filled}
use Rattle.sheet.proofs.put_sheet.Given as goal

abbrev pub invariant-loop-r : goal.invariant-loop-r
invariant-loop-r l = Filled l.n l.fn.figures l.r l.passed.one l.passed.both l.rest l.figures
