-- If no pair so far has differed, the cells so far are the same.
use Rattle.std.proofs.Common.{◌≡◌, ℕ, ◌<◌, true, length, get_or}
use Rattle.memories.proofs.same.Given as goal

abbrev pub invariant-loop-copy : goal.invariant-loop-copy
invariant-loop-copy l = l.all ≡ true → (k : ℕ) → k < length l.yielded → get_or l.copies k 0 ≡ get_or l.latest k 0
