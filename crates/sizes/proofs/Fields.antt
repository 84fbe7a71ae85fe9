-- The fields of a record that passes its tests, as its block has them.
use mathlib.Core.Path.{◌≡◌, refl, sym, ◌∙◌}
use mathlib.Core.Bool.{Bool, true, false, true≢false, cond, ◌&&◌}
use mathlib.Core.List.{List}
use Prim.Native.Nat.{ℕ, ◌≤◌, ◌<◌}
use native.Mathlib.Omega.{arith}
use lib.Dec.{ltb, leb, eqb}
use borrow.Author.Tests.{ltb-true, leb-true, eqb-true}
use Rattle.model.specs.Records.{kind}
use Rattle.model.proofs.Booleans.{and_out}
use Rattle.reading.specs.declared.Fields.{Fields}
use Rattle.reading.specs.Bytes.{array_count, body_count, length_at, nests, first_arm, second_arm}
use Rattle.rules.specs.Rules.{fields_fit}
use Rattle.format.specs.Plans.{action_of}
use Rattle.format.proofs.Acts.{side_fits, by_kind}
use Rattle.format.proofs.Trees.{is_branch, is_loop, is_fixed, is_leaf, shape}
use Rattle.files.specs.Files.{fields, action_fields}
use Rattle.files.proofs.Given.{side_again}
use Rattle.rules.proofs.Fields.{Sizes, fit_branch, fit_loop, fit_call, fit_fixed}
use Rattle.sizes.specs.Inner.Sizes.{second_field}

-- "Unused fields are zero"
pub fields_are : (x : Fields) (kind side array p q : ℕ) → x.kind ≡ kind → x.side ≡ side → x.array ≡ array → x.step ≡ 0 → x.p ≡ p → x.q ≡ q → x ≡ fields kind side array p q
fields_are x kind side array p q e0 e1 e2 e3 e4 e5 = λ j. record { kind = e0 j; side = e1 j; array = e2 j; step = e3 j; p = e4 j; q = e5 j }

module _ (f : List ℕ) (x : Fields) (fits : fields_fit f x ≡ true) where
  sizes : Sizes f x (array_count f) (body_count f) (length_at f x.array)
  sizes = record { arrays_are = refl; bodies_are = refl; size_is = refl }

  -- "1 read, 2 write, 3 copy .. 4 need, 5 mark"
  pub action_again : 1 ≤ x.kind → x.kind ≤ 5 → action_fields (action_of x) ≡ x
  unfolding action_of
  action_again h k =
      let same = by_kind x (h, k) (λ y. kind y.verb ≡ x.kind) sym sym sym sym sym in
      let side = side_again x.side (omega (arith, side_fits f x fits h k)) in
      λ j. record { kind = same j; side = side j; array = x.array; step = x.step; p = x.p; q = x.q }

  -- what the kinds without side and array have in common
  names_none : (eqb x.side 0 && eqb x.array 0 && eqb x.step 0) ≡ true → (x.side ≡ 0) × (x.array ≡ 0) × (x.step ≡ 0)
  names_none e =
      let w₁ = and_out (eqb x.side 0 && eqb x.array 0) (eqb x.step 0) e in
      let w₂ = and_out (eqb x.side 0) (eqb x.array 0) w₁.0 in
      (eqb-true _ _ w₂.0, eqb-true _ _ w₂.1, eqb-true _ _ w₁.1)

  -- "7 loop: P records."
  loop_none : x.kind ≡ 7 → (eqb x.side 0 && eqb x.array 0 && eqb x.step 0) ≡ true × (x.q ≡ 0)
  loop_none k = let w = and_out (eqb x.side 0 && eqb x.array 0 && eqb x.step 0) (eqb x.q 0) (fit_loop f x _ _ _ sizes k ∙ fits) in (w.0, eqb-true _ _ w.1)

  pub loop_turns : x.kind ≡ 7 → x.q ≡ 0
  loop_turns k = (loop_none k).1

  -- "6 branch: P records of the first arm, then Q of the second. 7 loop: P records.", 9 "P records, Q turns"
  nested_none : nests x ≡ true → (eqb x.side 0 && eqb x.array 0 && eqb x.step 0) ≡ true
  nested_none n = elim (shape x) [
    | is_branch k ↦ fit_branch f x _ _ _ sizes k ∙ fits
    | is_loop k ↦ (loop_none k).0
    | is_fixed k ↦ (and_out (eqb x.side 0 && eqb x.array 0 && eqb x.step 0) _ (fit_fixed f x _ _ _ sizes k ∙ fits)).0
    | is_leaf k ↦ absurd (true≢false (sym n ∙ k))
  ]

  own_second : x.q ≡ second_field x (second_arm x)
  unfolding second_arm second_field
  own_second = go (eqb x.kind 6)
    where
      go : (b : Bool) → x.q ≡ cond b (cond b x.q 0) x.q
      go true = refl
      go false = refl

  pub nested_again : nests x ≡ true → x ≡ fields x.kind 0 0 (first_arm x) (second_field x (second_arm x))
  unfolding first_arm
  nested_again n =
      let w = names_none (nested_none n) in
      rw (← own_second, n) (fields_are x _ _ _ _ _ refl w.0 w.1 w.2 refl refl)

  -- "8 call: P is a body, 1 to the last."
  pub call_body : x.kind ≡ 8 → (1 ≤ x.p) × (x.p < body_count f)
  call_body e =
      let none = eqb x.side 0 && eqb x.array 0 && eqb x.step 0 && eqb x.q 0 in
      let w₁ = and_out (none && leb 1 x.p) (ltb x.p (body_count f)) (fit_call f x _ _ _ sizes e ∙ fits) in
      (leb-true _ _ (and_out none (leb 1 x.p) w₁.0).1, ltb-true _ _ w₁.1)
