use Rattle.std.proofs.Common.{length}
use Rattle.model.specs.Sides.{cell_count}
use Rattle.reading.specs.Bytes.{layout_of}
use Rattle.memories.specs.Inner.Ranges.{Same}
use Rattle.standing.specs.Inner.Standing.{runner, measure, Reaches}
use Rattle.steps.proofs.run_lent.Given as goal

abbrev pub invariant-loop-n : goal.invariant-loop-n
invariant-loop-n l = record {
  reaches : Reaches l.plan l.choices (runner l.n l.room) l.host l.card l.latest l.tally;
  host : Same (cell_count (layout_of l.plan)) l.initial.host l.host;
  card : Same (cell_count (layout_of l.plan)) l.initial.card l.card;
  latest : Same (cell_count (layout_of l.plan)) l.initial.latest l.latest;
}

abbrev pub decreases-loop-n : goal.decreases-loop-n
decreases-loop-n l = measure l.plan (length l.choices) (runner l.n l.room)
