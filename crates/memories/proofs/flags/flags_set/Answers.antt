-- How many flags are set is how many ones the number has.
use Rattle.memories.proofs.Masks.{counted}
use Rattle.memories.proofs.flags.flags_set.Goals as goal

pub returns : goal.returns
returns c n flag e = rw e (counted n flag)
