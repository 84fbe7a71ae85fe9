use Rattle.standing.specs.Inner.Standing.{turn_begun}
use Rattle.places.proofs.Places.{turned_depth}
use Rattle.std.proofs.Common.{rules}
use Rattle.standing.proofs.Machine.begin_turn.Goals as goal

pub settle-requires : goal.settle-requires
settle-requires c = let h = turned_depth _ _ _ c.turn-q.ensures c.requires.0 in search (rules, h)

pub returns : goal.returns
unfolding turn_begun
returns c = rw (← c.turn-q.ensures, ← c.settle.ensures) (c.moved.ensures _)
