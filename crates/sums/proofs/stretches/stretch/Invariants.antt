-- The sums are those of the bytes passed, and a band in front of others has 704 bytes.
use Rattle.std.proofs.Common.{◌≡◌}
use Rattle.sums.proofs.Bands.{BandsTaken}
use Rattle.sums.proofs.stretches.stretch.Given as goal

abbrev pub invariant-loop-part : goal.invariant-loop-part
invariant-loop-part l = record {
  finite : (goal.iterator-loop-part).is_finite l.part-iterator;
  size : l.part-iterator.iter.size ≡ 704;
  taken : BandsTaken l.x l.part-iterator.iter.rest.now l.bands;
}
