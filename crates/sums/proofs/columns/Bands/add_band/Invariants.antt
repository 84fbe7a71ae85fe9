-- The first i numbers of each set are added.
use Rattle.std.proofs.Common.{◌≡◌, length, take}
use Rattle.sums.specs.Inner.Columns.{added}
use Rattle.sums.proofs.columns.Bands.add_band.Given as goal

abbrev pub invariant-loop-i : goal.invariant-loop-i
invariant-loop-i l = record {
  sizes : (length l.self.columns ≡ 32) × (length l.self.rows ≡ 32) × (length l.self.behind ≡ 32);
  columns_so_far : l.self.columns ≡ added l.initial.self.columns (take l.i l.band.plain);
  rows_so_far : l.self.rows ≡ added l.initial.self.rows (take l.i l.band.weighted);
  behind_so_far : l.self.behind ≡ added l.initial.self.behind (take l.i l.initial.self.columns);
}
