use Prim.Native.Nat.{◌-◌}
use Rattle.tracked.proofs.Tracking.{Touching}
use Rattle.tracked.proofs.touch.Given as goal

abbrev pub invariant-loop-c : goal.invariant-loop-c
invariant-loop-c l = Touching l.m l.step l.from l.to l.initial.cells l.c l.cells l.stuck

abbrev pub decreases-loop-c : goal.decreases-loop-c
decreases-loop-c l = l.to - l.c
