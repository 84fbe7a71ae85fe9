use mathlib.Core.Path.{◌≡◌}
use Prim.Native.Nat.{◌+◌, ◌-◌, ◌*◌, ◌≤◌}
use lib.ListN.{length}
use Rattle.reading.specs.Bytes.{layout_of}
use Rattle.format.specs.Inner.Walks.{Walkable, block_between}
use Rattle.statuses.specs.Inner.Sets.{number_of}
use Rattle.summary.specs.Inner.Ways.{cell_of, Exact}
use Rattle.summary.proofs.Turns.{Turning}
use Rattle.summary.proofs.Powers.{Part, Turns}
use Rattle.summary.proofs.Prefixes.{Prefix}
use Rattle.summary.proofs.Walk.+block_fixed_nested_row_of_turn_turned.Given as goal

abbrev pub decreases-block : goal.decreases-block
decreases-block l = 5 * (l.end - l.from)

abbrev pub decreases-fixed : goal.decreases-fixed
decreases-fixed l = 5 * (l.arm.second - (l.arm.r + 1)) + 3

abbrev pub decreases-nested : goal.decreases-nested
decreases-nested l = 5 * (l.next - (l.arm.r + 1)) + 4

abbrev pub decreases-row_of : goal.decreases-row_of
decreases-row_of l = 5 * (l.arm.second - (l.arm.r + 1)) + 1

abbrev pub decreases-turn : goal.decreases-turn
decreases-turn l = 5 * (l.arm.second - (l.arm.r + 1)) + 2

abbrev pub decreases-turned : goal.decreases-turned
decreases-turned l = 5 * (l.arm.second - (l.arm.r + 1)) + 2

abbrev pub invariant-block-loop-t : goal.invariant-block-loop-t
invariant-block-loop-t l =
    (l.from ≤ l.at)
    × (l.at ≤ l.end)
    × Walkable l.self.plan.file.now l.at l.end
    × Prefix l.self.plan.file.now (cell_of l.self.class) l.from l.at l.end l.initial.t l.t
    × Exact l.self.plan.file.now (cell_of l.self.class) l.self.class l.rows (number_of l.t.low)
    × (length l.rows ≡ length l.initial.rows)

abbrev pub decreases-block-loop-t : goal.decreases-block-loop-t
decreases-block-loop-t l = l.end - l.at

abbrev pub invariant-fixed-loop-i : goal.invariant-fixed-loop-i
invariant-fixed-loop-i l =
    (l.i ≤ l.turns)
    × Turns (layout_of l.self.plan.file.now) (cell_of l.self.class) (block_between l.self.plan.file.now (l.arm.r + 1) l.arm.second) l.initial.t l.i l.before l.t
    × Exact l.self.plan.file.now (cell_of l.self.class) l.self.class l.rows (number_of l.t.low)
    × (length l.rows ≡ length l.initial.rows)

abbrev pub decreases-fixed-loop-i : goal.decreases-fixed-loop-i
decreases-fixed-loop-i l = l.turns - l.i

abbrev pub invariant-turn-loop-w : goal.invariant-turn-loop-w
invariant-turn-loop-w l = record {
  can : (goal.iterator-turn-loop-w).can_next l.w-iterator;
  ends : (goal.iterator-turn-loop-w).is_finite l.w-iterator;
  part : Part (layout_of l.self.plan.file.now) (cell_of l.self.class) (block_between l.self.plan.file.now (l.arm.r + 1) l.arm.second) l.fn.begun.set l.fn.begun.low l.t l.w-iterator.left;
  exact : Exact l.self.plan.file.now (cell_of l.self.class) l.self.class l.rows (number_of l.t.low);
  size : length l.rows ≡ length l.initial.rows;
}

abbrev pub invariant-turned-loop-w : goal.invariant-turned-loop-w
invariant-turned-loop-w l =
    Turning (layout_of l.self.plan.file.now) (cell_of l.self.class) (block_between l.self.plan.file.now (l.arm.r + 1) l.arm.second) l.initial.t l.t l.looked l.todo
    × Exact l.self.plan.file.now (cell_of l.self.class) l.self.class l.rows (number_of l.t.low)
    × (length l.rows ≡ length l.initial.rows)

abbrev pub decreases-turned-loop-w : goal.decreases-turned-loop-w
decreases-turned-loop-w l = 65535 - l.looked
