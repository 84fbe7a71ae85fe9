use Prim.Native.Nat.{◌-◌, ◌≤◌}
use mathlib.Core.Path.{◌≡◌}
use lib.ListN.{length}
use Rattle.model.proofs.Through.{StopsAt}
use Rattle.model.proofs.Check.{Fits}
use Rattle.format.specs.Plans.{plan_of}
use Rattle.lookahead.specs.Inner.Ahead.{Spare}
use Rattle.summary.specs.Inner.Ways.{Room}
use Rattle.cells.proofs.over_array.Given as goal

abbrev pub invariant-loop-c : goal.invariant-loop-c
invariant-loop-c l =
    (l.cells.first ≤ l.c)
    × (l.c ≤ l.cells.next)
    × Fits l.c (StopsAt (plan_of l.plan.file.now)) l.v
    × Room l.plan.file.now l.c l.rows
    × (length l.rows ≡ length l.initial.rows)
    × Spare l.plan.file.now l.ahead
    × (length l.ahead ≡ length l.initial.ahead)

abbrev pub decreases-loop-c : goal.decreases-loop-c
decreases-loop-c l = l.cells.next - l.c
