-- Ranges of numbers, as the definitions test them.
use mathlib.Core.Path.{◌≡◌}
use mathlib.Core.Bool.{true, false}
use Prim.Native.Nat.{ℕ, ◌≤◌}
use lib.Dec.{leb}
use borrow.Author.Tests.{le-leb, leb-true}
use Rattle.model.proofs.Booleans.{and_out, false_of}
use Rattle.reading.specs.Bytes.{between}

module _ (a b k : ℕ) where
  pub in_range : a ≤ k → k ≤ b → between a b k ≡ true
  in_range h l = rw (le-leb a k h, le-leb k b l)

  pub of_range : between a b k ≡ true → (a ≤ k) × (k ≤ b)
  of_range e = let w = and_out (leb a k) (leb k b) e in (leb-true a k w.0, leb-true k b w.1)

  pub out_of_range : (a ≤ k → k ≤ b → ⊥) → between a b k ≡ false
  out_of_range h = false_of _ λ e. let w = of_range e in h w.0 w.1
