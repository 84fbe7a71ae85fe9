-- The largest product of the counts of fixed loops along a nesting.
use mathlib.Core.Path.{◌≡◌, refl}
use Prim.Native.Nat.{ℕ, suc, ◌*◌, max, ◌≤◌}
use native.Mathlib.Nat.{le-max_right}
use native.Mathlib.Omega.{arith}
use Rattle.model.specs.Blocks.{Block, done, act, branch, loop, fixed, largest}

-- each block counts at least 1
pub largest_some : {A : Type 0} (b : Block A) → 1 ≤ largest b
largest_some done = omega arith
largest_some (act r x b) = largest_some b
largest_some (branch r x y b) = omega (arith, largest_some b, le-max_right (largest y) (largest b), le-max_right (largest x) (max (largest y) (largest b)))
largest_some (loop r x b) = omega (arith, largest_some b, le-max_right (largest x) (largest b))
largest_some (fixed r n x b) = omega (arith, largest_some b, le-max_right (suc n * largest x) (largest b))

-- 3 turns that hold a branch with 5 turns in one arm, and a loop that holds 4 in the other; 14 turns beside it
example : Block ℕ
example = fixed 0 2 (branch 1 (fixed 2 4 done done) (loop 3 (fixed 4 3 done done) done) done) (fixed 5 13 done done)

example_is : largest example ≡ 15
unfolding example
example_is = refl
