-- To put the stamp in the cells of the step from `at` on is all that is left.
use Rattle.std.proofs.Common.{ℕ, ◌-◌}
use Rattle.memories.proofs.Cells.{Storing}
use Rattle.memories.proofs.stepped.fill_step.Given as goal

abbrev pub invariant-loop-at : goal.invariant-loop-at
invariant-loop-at l = Storing l.step l.from l.to (λ (k : ℕ). l.stamp) l.fn.memory l.at l.memory

abbrev pub decreases-loop-at : goal.decreases-loop-at
decreases-loop-at l = l.to - l.at
