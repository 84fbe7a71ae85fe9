-- The sums are those of the columns passed, numbered from 1.
use Rattle.std.proofs.Common.{◌≤◌, ◌-◌, ◌*◌, length}
use Rattle.sums.proofs.Parts.{Passed}
use Rattle.sums.proofs.columns.numbered.Given as goal

abbrev pub invariant-loop-n : goal.invariant-loop-n
invariant-loop-n l = record {
  finite : (goal.iterator-loop-n).is_finite l.n-iterator;
  passed : Passed l.columns l.n-iterator.iter.rest.now l.plain l.weighted;
  plain_low : l.plain ≤ 4294967295 * (32 - length l.n-iterator.iter.rest.now);
  weighted_low : l.weighted ≤ 137438953440 * (32 - length l.n-iterator.iter.rest.now);
}
