-- To copy the cells from c on is all that is left.
use Rattle.std.proofs.Common.{ℕ, get_or}
use Rattle.memories.proofs.Cells.{Storing}
use Rattle.memories.proofs.copy_cells.Given as goal

abbrev pub invariant-loop-c : goal.invariant-loop-c
invariant-loop-c l = Storing 1 l.from l.to (λ (k : ℕ). get_or l.source k 0) l.fn.target l.c l.target
