-- What the tests of a record's kind say.
use mathlib.Core.Path.{◌≡◌, sym, ◌∙◌}
use mathlib.Core.Bool.{Bool, true, false}
use Prim.Native.Nat.{ℕ, ◌≤◌, ◌<◌}
use lib.Dec.{leb, eqb}
use borrow.Author.Tests.{eqb-true, eqb-false, leb-true, leb-false}

module _ {n m : ℕ} {b : Bool} where
  -- a number that is or is not that of a kind
  pub of_kind : b ≡ eqb n m → b ≡ true → n ≡ m
  of_kind e h = eqb-true n m (sym e ∙ h)

  pub not_of_kind : b ≡ eqb n m → b ≡ false → n ≡ m → ⊥
  not_of_kind e h = eqb-false n m (sym e ∙ h)

  -- one that is or is not up to that of a kind
  pub up_to_kind : b ≡ leb n m → b ≡ true → n ≤ m
  up_to_kind e h = leb-true n m (sym e ∙ h)

  pub past_kind : b ≡ leb n m → b ≡ false → m < n
  past_kind e h = leb-false n m (sym e ∙ h)
