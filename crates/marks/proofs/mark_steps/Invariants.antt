-- `marks::mark_steps` marks the cells of a record with a step. The invariant: with those from c on marked too, all are.
use mathlib.Core.Path.{◌≡◌}
use mathlib.Core.Bool.{Bool}
use mathlib.Core.List.{List}
use Prim.Native.Nat.{◌-◌}
use lib.ListN.{length}
use Rattle.model.specs.Records.{stepped}
use Rattle.marks.specs.Inner.Marks.{Adds}
use Rattle.marks.proofs.mark_steps.Given as goal

abbrev pub invariant-loop-c : goal.invariant-loop-c
invariant-loop-c l = (length l.set ≡ 4096) × ((after : List Bool) → Adds l.set after (stepped l.c-step l.c l.c-end) → Adds l.initial.set after (stepped l.c-step l.initial.c l.c-end))

abbrev pub decreases-loop-c : goal.decreases-loop-c
decreases-loop-c l = l.c-end - l.c
