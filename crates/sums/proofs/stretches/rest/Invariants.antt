-- The sums are those of the bytes passed, numbered from 1.
use Rattle.std.proofs.Common.{◌≤◌, ◌-◌, ◌*◌, length}
use Rattle.sums.proofs.Parts.{Passed}
use Rattle.sums.proofs.stretches.rest.Given as goal

abbrev pub invariant-loop-b : goal.invariant-loop-b
invariant-loop-b l = record {
  finite : (goal.iterator-loop-b).is_finite l.b-iterator;
  passed : Passed l.x l.b-iterator.iter.rest.now l.t.plain l.t.weighted;
  plain_low : l.t.plain ≤ 255 * (length l.x - length l.b-iterator.iter.rest.now);
  weighted_low : l.t.weighted ≤ 32640 * (length l.x - length l.b-iterator.iter.rest.now);
}
