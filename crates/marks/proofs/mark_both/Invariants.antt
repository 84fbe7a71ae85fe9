-- `marks::mark_both` marks the cells that two sets have both. The invariant: those below c are marked.
use Rattle.std.proofs.Common.{◌&&◌}
use lib.Dec.{ltb}
use Rattle.marks.specs.Inner.Marks.{marked, Adds}
use Rattle.marks.proofs.mark_both.Given as goal

abbrev pub invariant-loop-c : goal.invariant-loop-c
invariant-loop-c l = Adds l.initial.set l.set (λ k. ltb k l.c && (marked l.one k && marked l.two k))
