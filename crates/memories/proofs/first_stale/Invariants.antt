-- Those cells of the step that are not ahead of c are current.
use Rattle.std.proofs.Common.{◌-◌}
use Rattle.model.specs.Records.{distance}
use Rattle.memories.specs.Inner.Ranges.{Passed}
use Rattle.memories.proofs.first_stale.Given as goal

abbrev pub invariant-loop-c : goal.invariant-loop-c
invariant-loop-c l = Passed l.copies l.latest (distance l.step) l.from l.to l.c

abbrev pub decreases-loop-c : goal.decreases-loop-c
decreases-loop-c l = l.to - l.c
