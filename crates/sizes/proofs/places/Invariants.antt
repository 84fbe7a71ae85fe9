-- `sizes::places` finds where each record of body 0 begins in the expansion. The invariant: the places up to record r are there, and n is that of r.
use mathlib.Core.Path.{◌≡◌}
use Prim.Native.Nat.{ℕ, ◌≤◌}
use lib.ListN.{length, get_or}
use Rattle.sizes.specs.Inner.Sizes.{place}
use Rattle.sizes.proofs.places.Given as goal

abbrev pub invariant-loop-r : goal.invariant-loop-r
invariant-loop-r l =
    (l.n ≡ place l.plan l.r) × (length l.places ≡ 1025) × ((k : ℕ) → k ≤ l.r → get_or l.places k 0 ≡ place l.plan k)
