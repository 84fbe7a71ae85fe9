use mathlib.Core.Path.{◌≡◌}
use lib.ListN.{length, get_or}
use Rattle.lookahead.specs.Inner.Ahead.{Ahead}
use Rattle.lookahead.proofs.Spot.look_ahead.Given as goal

abbrev pub invariant-loop-r : goal.invariant-loop-r
invariant-loop-r l = record {
  ahead : Ahead l.plan.file.now l.self.array.0 l.self.offset l.r l.ahead;
  next : l.next ≡ get_or l.ahead l.r 0;
  size : length l.ahead ≡ length l.initial.ahead;
}
