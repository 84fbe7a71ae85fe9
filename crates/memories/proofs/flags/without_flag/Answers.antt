-- An array's flag is cleared, and the others stay.
use Rattle.std.proofs.Common.{arith}
use Rattle.memories.proofs.Masks.{shifted, cleared}
use Rattle.memories.proofs.flags.without_flag.Goals as goal

pub returns : goal.returns
returns c n flag h e = rw (shifted 64 c.args.array (omega arith), e) (cleared n flag _ h)
