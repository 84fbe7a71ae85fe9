-- Declared and plain.
use mathlib.Core.Path.{◌≡◌}
use mathlib.Core.Bool.{true, false}
use mathlib.Core.List.{List}
use Prim.Native.Nat.{ℕ}
use native.Mathlib.Omega.{arith}
use borrow.Author.Tests.{eqb-true, ne_eqb}
use Rattle.reading.specs.Bytes.{kind_of, is_declared, is_plain}

-- a declared plan is no plain one
pub not_plain : (f : List ℕ) → is_declared f ≡ true → is_plain f ≡ false
not_plain f d = let k : kind_of f ≡ 1 = eqb-true _ _ d in ne_eqb (kind_of f) 2 (λ z. omega arith)
