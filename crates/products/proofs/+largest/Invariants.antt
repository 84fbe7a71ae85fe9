use mathlib.Core.Path.{◌≡◌}
use Prim.Native.Nat.{◌-◌, max, ◌≤◌}
use Rattle.products.specs.Inner.Counts.{Counted}
use Rattle.products.proofs.Counts.{product_of}
use Rattle.products.proofs.+largest.Given as goal

abbrev pub decreases-largest : goal.decreases-largest
decreases-largest l = l.end - l.from

abbrev pub invariant-loop-r : goal.invariant-loop-r
invariant-loop-r l = (l.from ≤ l.r) × (l.r ≤ l.end) × (1 ≤ l.most) × Counted l.plan l.r l.end × (max l.most (product_of l.plan l.r l.end) ≡ product_of l.plan l.from l.end)

abbrev pub decreases-loop-r : goal.decreases-loop-r
decreases-loop-r l = l.end - l.r
