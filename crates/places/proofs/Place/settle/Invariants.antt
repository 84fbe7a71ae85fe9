use mathlib.Core.Path.{◌≡◌}
use Prim.Native.Nat.{◌≤◌}
use Rattle.places.specs.Inner.Places.{spot, settled}
use Rattle.places.proofs.Place.settle.Given as goal

abbrev pub invariant-loop-q : goal.invariant-loop-q
invariant-loop-q l = (settled (spot l.q l.room) ≡ settled (spot l.initial.q l.room)) × (l.q.depth ≤ 16)

abbrev pub decreases-loop-q : goal.decreases-loop-q
decreases-loop-q l = l.q.depth
