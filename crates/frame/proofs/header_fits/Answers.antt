-- The rule reads the same four bytes.
use Rattle.frame.specs.Frame.{header_fits}
use Rattle.frame.proofs.header_fits.Goals as goal

pub returns : goal.returns
unfolding header_fits
returns c = λ f e. rw (← e.0, ← e.1, ← e.2, ← e.3)
