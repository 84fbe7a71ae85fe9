use Prim.Native.Nat.{◌-◌}
use Rattle.steps.proofs.First.{Begun}
use Rattle.steps.proofs.start_scratch.Given as goal

abbrev pub invariant-loop-a : goal.invariant-loop-a
invariant-loop-a l = Begun l.plan l.arrays l.initial.host l.first l.a l.flags l.host

abbrev pub decreases-loop-a : goal.decreases-loop-a
decreases-loop-a l = l.arrays - l.a
