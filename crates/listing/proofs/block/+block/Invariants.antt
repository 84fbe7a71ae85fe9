-- the records left can be walked
use Rattle.std.proofs.Common.{◌-◌, ◌≤◌}
use Rattle.listing.specs.Inner.Bodies.{Listable}
use Rattle.listing.proofs.block.+block.Given as goal

abbrev pub decreases-block : goal.decreases-block
decreases-block g l = l.end - l.from

abbrev pub invariant-loop-r : goal.invariant-loop-r
invariant-loop-r g l = record { above : l.from ≤ l.r; inside : l.r ≤ l.end; walks : Listable l.body l.first l.r l.end }

abbrev pub decreases-loop-r : goal.decreases-loop-r
decreases-loop-r g l = l.end - l.r
