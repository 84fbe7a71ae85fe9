-- the bytes that are left
use Rattle.std.proofs.Common.{length}
use Rattle.console.proofs.streams.write.Given as goal

abbrev pub decreases-loop-rest : goal.decreases-loop-rest
decreases-loop-rest g l = length l.rest
