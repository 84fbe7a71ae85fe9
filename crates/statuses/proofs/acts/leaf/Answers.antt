use native.Mathlib.Omega.{arith}
use Rattle.statuses.specs.Inner.Sets.{after_rows, unmet_rows}
use Rattle.statuses.proofs.Tables.{leaf_is}
use Rattle.statuses.proofs.acts.leaf.Goals as goal

pub returns : goal.returns
unfolding after_rows unmet_rows
returns c = record { low = omega arith; step = leaf_is c.args.kind c.args.side c.args.w (c.requires.0, c.requires.1, c.requires.2) }
