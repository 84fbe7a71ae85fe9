-- An array's flag is set, and the others stay.
use Rattle.std.proofs.Common.{arith}
use Rattle.memories.proofs.Masks.{shifted, added}
use Rattle.memories.proofs.flags.with_flag.Goals as goal

pub returns : goal.returns
returns c n flag h e = rw (shifted 64 c.args.array (omega arith), e) (added n flag _ h)
