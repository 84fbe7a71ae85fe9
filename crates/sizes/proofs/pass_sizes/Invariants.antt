-- `sizes::pass_sizes` counts for each pass the records that a call of it becomes. The invariant: the counts of the passes before b are there.
use mathlib.Core.Path.{◌≡◌}
use Prim.Native.Nat.{ℕ, ◌≤◌, ◌<◌}
use lib.ListN.{length, get_or}
use Rattle.model.specs.Blocks.{size}
use Rattle.sizes.specs.Inner.Sizes.{called}
use Rattle.sizes.proofs.pass_sizes.Given as goal

abbrev pub invariant-loop-b : goal.invariant-loop-b
invariant-loop-b l =
    (length l.sizes ≡ 32) × ((k : ℕ) → 1 ≤ k → k < l.b → get_or l.sizes k 0 ≡ size (called l.plan k))
