use Prim.Native.Nat.{◌≤◌}
use Rattle.classes.specs.Inner.Marks.{Marked}
use Rattle.classes.proofs.marks.Given as goal

abbrev pub invariant-loop-r : goal.invariant-loop-r
invariant-loop-r l = (l.r ≤ l.plan.records) × Marked l.plan.file.now l.r l.m
