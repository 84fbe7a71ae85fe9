-- `marks::mark_written` marks the cells that every way through a block writes. The invariant: whatever set has the cells of the records left and those
-- marked here, has those of the block and those marked before. The measure is the number of records.
use mathlib.Core.Path.{◌≡◌}
use mathlib.Core.Bool.{Bool}
use mathlib.Core.List.{List}
use lib.ListN.{length}
use Rattle.format.specs.Inner.Walks.{Walkable}
use Rattle.marks.specs.Inner.Marks.{Adds, always}
use Prim.Native.Nat.{◌-◌, ◌≤◌}
use Rattle.marks.proofs.+mark_written.Given as goal

abbrev pub decreases-mark_written : goal.decreases-mark_written
decreases-mark_written l = l.end - l.r

abbrev pub invariant-loop-at : goal.invariant-loop-at
invariant-loop-at l =
    (l.r ≤ l.at)
    × (l.at ≤ l.end)
    × (length l.set ≡ 4096)
    × Walkable l.plan l.at l.end
    × ((after : List Bool) → Adds l.set after (always l.plan l.declared l.at l.end) → Adds l.initial.set after (always l.plan l.declared l.r l.end))

abbrev pub decreases-loop-at : goal.decreases-loop-at
decreases-loop-at l = l.end - l.at
