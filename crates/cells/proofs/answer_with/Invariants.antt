use Prim.Native.Nat.{◌-◌, ◌≤◌}
use mathlib.Core.Path.{◌≡◌}
use lib.ListN.{length}
use Rattle.model.specs.Sides.{span_of}
use Rattle.model.proofs.Through.{StopsAt}
use Rattle.model.proofs.Check.{Fits}
use Rattle.reading.specs.Bytes.{layout_of}
use Rattle.format.specs.Plans.{plan_of}
use Rattle.lookahead.specs.Inner.Ahead.{Spare}
use Rattle.summary.specs.Inner.Ways.{Room}
use Rattle.cells.proofs.answer_with.Given as goal

abbrev pub invariant-loop-a : goal.invariant-loop-a
invariant-loop-a l =
    (l.a ≤ l.arrays)
    × (l.first ≡ (span_of (layout_of l.plan.file.now) l.a).first)
    × Fits l.first (StopsAt (plan_of l.plan.file.now)) l.v
    × Room l.plan.file.now l.first l.rows
    × (length l.rows ≡ length l.initial.rows)
    × Spare l.plan.file.now l.ahead
    × (length l.ahead ≡ length l.initial.ahead)

abbrev pub decreases-loop-a : goal.decreases-loop-a
decreases-loop-a l = l.arrays - l.a
