-- The shape of a record: whether it has arms, and how many turns.
use mathlib.Core.Path.{◌≡◌, sym, ◌∙◌}
use mathlib.Core.Bool.{false, true≢false}
use Prim.Native.Nat.{◌≤◌}
use native.Nat.{ℕᴺ_discrete}
use native.Mathlib.Omega.{arith}
use lib.Dec.{eqb}
use borrow.Author.Tests.{eq-eqb, ne_eqb, eqb-false}
use Rattle.model.proofs.Booleans.{or_none}
use Rattle.reading.specs.declared.Fields.{Fields}
use Rattle.reading.specs.Bytes.{between, nests, first_arm, second_arm, turns_of}
use Rattle.reading.proofs.Ranges.{in_range, out_of_range}

-- what a record is: a branch, a loop, a fixed loop, or a leaf, which has neither arms nor a body
pub data Shape (x : Fields) : Type 0 where
  is_branch : x.kind ≡ 6 → Shape x
  is_loop : x.kind ≡ 7 → Shape x
  is_fixed : x.kind ≡ 9 → Shape x
  is_leaf : nests x ≡ false → Shape x

module _ (x : Fields) where
  pub no_nesting : (x.kind ≡ 6 → ⊥) → (x.kind ≡ 7 → ⊥) → (x.kind ≡ 9 → ⊥) → nests x ≡ false
  no_nesting i j k = rw (out_of_range 6 7 x.kind (λ u v. omega arith), ne_eqb x.kind 9 k)

  pub not_nesting : nests x ≡ false → (x.kind ≡ 6 → ⊥) × (x.kind ≡ 7 → ⊥) × (x.kind ≡ 9 → ⊥)
  not_nesting e =
      let w = or_none (between 6 7 x.kind) (eqb x.kind 9) e in
      let out : 6 ≤ x.kind → x.kind ≤ 7 → ⊥ = λ u v. true≢false (sym (in_range 6 7 x.kind u v) ∙ w.0) in
      (λ z. out (omega arith) (omega arith), λ z. out (omega arith) (omega arith), eqb-false x.kind 9 w.1)

  pub shape : Shape x
  shape = elim (ℕᴺ_discrete x.kind 6) [
    | yes e ↦ is_branch e
    | no i ↦ elim (ℕᴺ_discrete x.kind 7) [
      | yes e ↦ is_loop e
      | no j ↦ elim (ℕᴺ_discrete x.kind 9) [ yes e ↦ is_fixed e | no k ↦ is_leaf (no_nesting i j k) ]
    ]
  ]

  -- a record of kinds 1 to 5, and a declaration
  pub low_leaf : x.kind ≤ 5 → nests x ≡ false
  low_leaf h = no_nesting (λ z. omega arith) (λ z. omega arith) (λ z. omega arith)

  pub high_leaf : 16 ≤ x.kind → nests x ≡ false
  high_leaf h = no_nesting (λ z. omega arith) (λ z. omega arith) (λ z. omega arith)

  -- a leaf has no arms
  pub no_arms : nests x ≡ false → (first_arm x ≡ 0) × (second_arm x ≡ 0)
  unfolding first_arm second_arm
  no_arms e = (rw e, rw (ne_eqb x.kind 6 (not_nesting e).0))

  -- a fixed loop has its own turns, any other record counts 1
  pub own_turns : x.kind ≡ 9 → turns_of x ≡ x.q
  unfolding turns_of
  own_turns k = rw (eq-eqb x.kind 9 k)

  pub one_turn : (x.kind ≡ 9 → ⊥) → turns_of x ≡ 1
  unfolding turns_of
  one_turn k = rw (ne_eqb x.kind 9 k)
