-- `sizes::expansion_size` reads the place behind the last record of body 0.
use mathlib.Core.Path.{ap}
use lib.ListN.{get_or}
use Rattle.sizes.proofs.expansion_size.Goals as goal

pub returns : goal.returns
returns c = ap (λ k. get_or c.args.places.now k 0) c.body0_end.ensures
