-- `expand::expansion_records` counts the records of the expansion.
use mathlib.Core.Path.{◌∙◌}
use native.Mathlib.Omega.{arith}
use Rattle.sizes.proofs.Body0.{end_read, body0_few}
use Rattle.writer.proofs.Expansions.{size_read_off}
use Rattle.expand.proofs.expansion_records.Goals as goal

pub expansion_size-requires : goal.expansion_size-requires
expansion_size-requires c = let w = c.requires in omega (arith, end_read _ w.0 _ w.1, body0_few _ w.0)

pub returns : goal.returns
returns c = let w = c.requires in c.expansion_size.ensures ∙ size_read_off _ w.0 _ _ (end_read _ w.0 _ w.1) c.places.ensures
