-- An array's flag is tested.
use Rattle.std.proofs.Common.{arith}
use Rattle.memories.proofs.Masks.{shifted, tested}
use Rattle.memories.proofs.flags.flag_set.Goals as goal

pub returns : goal.returns
returns c n flag h e = rw (shifted 64 c.args.array (omega arith), e) (tested n flag _ h)
