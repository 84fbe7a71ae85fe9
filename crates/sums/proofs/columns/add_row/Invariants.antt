-- The first i bytes are added.
use Rattle.std.proofs.Common.{◌≡◌, length, take}
use Rattle.sums.specs.Inner.Columns.{added}
use Rattle.sums.proofs.columns.add_row.Given as goal

abbrev pub invariant-loop-i : goal.invariant-loop-i
invariant-loop-i l = record {
  size : length l.columns ≡ 32;
  so_far : l.columns ≡ added l.initial.columns (take l.i l.row);
}
