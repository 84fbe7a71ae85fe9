use Rattle.format.specs.Plans.{side_of, verb_of}
use Rattle.statuses.specs.Inner.Sets.{touched_met, touched_after}
use Rattle.statuses.proofs.Moves.{Moving}
use Rattle.statuses.proofs.acts.Found.acted.Given as goal

abbrev pub invariant-loop-w : goal.invariant-loop-w
invariant-loop-w l = record {
  can : (goal.iterator-loop-w).can_next l.w-iterator;
  ends : (goal.iterator-loop-w).is_finite l.w-iterator;
  moving : Moving (touched_after (verb_of l.kind) (side_of l.side)) (touched_met (verb_of l.kind) (side_of l.side)) l.k l.self l.set l.stops l.w-iterator.left;
}
