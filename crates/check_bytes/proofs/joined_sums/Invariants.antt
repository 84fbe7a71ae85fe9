-- The sums are those of the stretches taken, joined to those behind the rows.
use Rattle.std.proofs.Common.{◌≡◌}
use Rattle.check_bytes.proofs.Joins.{StretchesTaken}
use Rattle.check_bytes.proofs.joined_sums.Given as goal

abbrev pub invariant-loop-x : goal.invariant-loop-x
invariant-loop-x l = record {
  finite : (goal.iterator-loop-x).is_finite l.x-iterator;
  size : l.x-iterator.size ≡ 45056;
  taken : StretchesTaken l.initial.x-iterator.rest.now l.x-iterator.rest.now l.initial.sums l.sums;
}
