use Rattle.tracked.specs.Inner.Tracking.{stops_by}
use Rattle.std.proofs.Common.{rules}
use Rattle.tracked.proofs.masks.stops.Goals as goal

pub returns : goal.returns
unfolding stops_by
returns c = search rules
