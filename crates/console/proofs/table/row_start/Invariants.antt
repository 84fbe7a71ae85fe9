-- each row in turn: the bytes that are left
use Rattle.std.proofs.Common.{length, ◌-◌, ◌+◌, ◌≤◌}
use Rattle.console.proofs.table.row_start.Given as goal

abbrev pub invariant-loop-i : goal.invariant-loop-i
invariant-loop-i l = l.i ≤ length l.table + 1

abbrev pub decreases-loop-i : goal.decreases-loop-i
decreases-loop-i l = length l.table + 1 - l.i
