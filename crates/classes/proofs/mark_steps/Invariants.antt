use Prim.Native.Nat.{◌-◌}
use Rattle.classes.proofs.Marking.{Behind}
use Rattle.classes.proofs.mark_steps.Given as goal

abbrev pub invariant-loop-c : goal.invariant-loop-c
invariant-loop-c l = Behind l.c-step l.initial.c l.c-end l.c l.initial.m l.m

abbrev pub decreases-loop-c : goal.decreases-loop-c
decreases-loop-c l = l.c-end - l.c
