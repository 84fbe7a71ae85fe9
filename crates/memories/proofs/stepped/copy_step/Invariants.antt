-- To copy the cells of the step from c on is all that is left.
use Rattle.std.proofs.Common.{ℕ, ◌-◌, get_or}
use Rattle.memories.proofs.Cells.{Storing}
use Rattle.memories.proofs.stepped.copy_step.Given as goal

abbrev pub invariant-loop-c : goal.invariant-loop-c
invariant-loop-c l = Storing l.step l.from l.to (λ (k : ℕ). get_or l.source k 0) l.fn.target l.c l.target

abbrev pub decreases-loop-c : goal.decreases-loop-c
decreases-loop-c l = l.to - l.c
