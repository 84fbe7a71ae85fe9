-- The sums are those of the rows passed.
use Rattle.std.proofs.Common.{◌≡◌}
use Rattle.sums.proofs.Rows.{RowsTaken}
use Rattle.sums.proofs.stretches.band_of.Given as goal

abbrev pub invariant-loop-row : goal.invariant-loop-row
invariant-loop-row l = record {
  finite : (goal.iterator-loop-row).is_finite l.row-iterator;
  size : l.row-iterator.size ≡ 32;
  taken : RowsTaken l.x l.row-iterator.rest.now l.band.plain l.band.weighted;
}
