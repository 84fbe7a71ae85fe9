use Prim.Native.Nat.{◌-◌}
use Rattle.tracked.proofs.First.{Begun}
use Rattle.tracked.proofs.write_statuses.Given as goal

abbrev pub invariant-loop-a : goal.invariant-loop-a
invariant-loop-a l = Begun l.plan l.arrays l.initial.cells l.first l.a l.cells

abbrev pub decreases-loop-a : goal.decreases-loop-a
decreases-loop-a l = l.arrays - l.a
