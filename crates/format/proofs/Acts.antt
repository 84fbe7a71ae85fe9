-- A record of an opened plain plan that a walk has read: its place in the file, its kind and fields, its arms, and the action that it is.
use Prim.Native.Nat.{ℕ, ◌+◌, ◌*◌, ◌≤◌, ◌<◌}
use mathlib.Core.Path.{◌≡◌, refl, ◌∙◌}
use mathlib.Core.Bool.{true, ◌&&◌}
use mathlib.Core.List.{List}
use native.Nat.{ℕᴺ_discrete}
use native.Mathlib.Decide.{dec_lt}
use native.Mathlib.Omega.{arith}
use lib.Dec.{eqb, ltb}
use lib.ListN.{length}
use borrow.Author.Tests.{eq-eqb, ne_eqb, ltb-true, leb-true}
use Rattle.model.specs.Records.{Verb, read, write, copy, need, mark, Action}
use Rattle.model.proofs.Booleans.{and_out}
use Rattle.reading.specs.declared.Fields.{Fields}
use Rattle.reading.specs.Bytes.{array_count, body_count, length_at, record_count, fields_at, between, first_arm, second_arm}
use Rattle.rules.specs.Rules.{fields_fit, allowed}
use Rattle.format.specs.Plans.{side_of, action_of}
use Rattle.format.specs.Inner.Walks.{Plain, Walkable}
use Rattle.reading.proofs.Ranges.{of_range}
use Rattle.rules.proofs.Fields.{Sizes, fit_cells, fit_array, fit_fixed}
use Rattle.format.proofs.Trees.{ActsOrNests, acts_nests, low_leaf, no_arms}
use Rattle.format.proofs.Walking.{good_parts, opened_facts, Steps, steps}

module _ (f : List ℕ) (bodies : ℕ) (w : Plain f bodies) where
  -- a record stands inside the file
  pub record_inside : (r : ℕ) → r < record_count f → bodies + 8 * r + 8 ≤ length f
  record_inside r h = omega (arith, w.place, (opened_facts f w.opens).bounds.long)

  -- "A plain plan holds kinds 1 to 7", and kind 9 "wherever kind 7 may stand"
  pub plain_kind : (r end : ℕ) → r < end → Walkable f r end → ActsOrNests (fields_at f r)
  unfolding allowed
  plain_kind r end h g =
      acts_nests (fields_at f r) (rw w.plain at (good_parts f g.body g.depth g.around r end h g.good).tests.allows)

-- fields that keep their rules
module _ (f : List ℕ) (x : Fields) (e : fields_fit f x ≡ true) where
  sizes : Sizes f x (array_count f) (body_count f) (length_at f x.array)
  sizes = record { arrays_are = refl; bodies_are = refl; size_is = refl }

  abbrev on_array : Type 0
  on_array = (x.side ≤ 1) × (x.array < array_count f)

  -- "cells P to Q − 1 of the array, P < Q ≤ its length"
  pub cells_fit : 1 ≤ x.kind → x.kind ≤ 3 → on_array × (x.p < x.q) × (x.q ≤ length_at f x.array)
  cells_fit h k =
      let side = ltb x.side 2 in
      let array = ltb x.array (array_count f) in
      let w₁ = and_out (side && array && ltb x.p x.q) _ (fit_cells f x _ _ _ sizes h k ∙ e) in
      let w₂ = and_out (side && array) (ltb x.p x.q) w₁.0 in
      let w₃ = and_out side array w₂.0 in
      ((omega (arith, ltb-true x.side 2 w₃.0), ltb-true _ _ w₃.1), ltb-true _ _ w₂.1, leb-true _ _ w₁.1)

  pub array_fits : 4 ≤ x.kind → x.kind ≤ 5 → on_array
  array_fits h k =
      let side = ltb x.side 2 in
      let array = ltb x.array (array_count f) in
      let w₁ = and_out (side && array && eqb x.step 0 && eqb x.p 0) _ (fit_array f x _ _ _ sizes h k ∙ e) in
      let w₂ = and_out (side && array && eqb x.step 0) (eqb x.p 0) w₁.0 in
      let w₃ = and_out side array (and_out (side && array) (eqb x.step 0) w₂.0).0 in
      (omega (arith, ltb-true x.side 2 w₃.0), ltb-true _ _ w₃.1)

  -- "Q turns from 1 to 4,096"
  pub turns_fit : x.kind ≡ 9 → (1 ≤ x.q) × (x.q ≤ 4096)
  turns_fit k = of_range 1 4096 x.q (and_out (eqb x.side 0 && eqb x.array 0 && eqb x.step 0) (between 1 4096 x.q) (fit_fixed f x _ _ _ sizes k ∙ e)).1

  pub side_fits : 1 ≤ x.kind → x.kind ≤ 5 → x.side ≤ 1
  side_fits h k = elim (dec_lt 3 x.kind) [ yes l ↦ (array_fits (omega arith) k).0 | no l ↦ (cells_fit h (omega arith)).0.0 ]

-- what a walk knows of record r, whose fields x it has read
pub record Here (f : List ℕ) (r end : ℕ) (x : Fields) : Type 0 where
  pub low : 1 ≤ x.kind
  pub high : x.kind ≤ 9
  pub no_call : x.kind ≡ 8 → ⊥
  pub side : x.kind ≤ 5 → x.side ≤ 1
  pub turns : x.kind ≡ 9 → (1 ≤ x.q) × (x.q ≤ 4096)
  pub steps : Steps f r end x
  pub few : end ≤ 1024

pub here : (f : List ℕ) (bodies r end : ℕ) → Plain f bodies → r < end → end ≤ record_count f → Walkable f r end → (x : Fields) → x ≡ fields_at f r → Here f r end x
here f bodies r end w h l g x e =
    let k : ActsOrNests x = rw e (plain_kind f bodies w r end h g) in
    let s = steps f r end h g x e in
    record {
      low = k.0;
      high = k.1;
      no_call = k.2;
      side = side_fits f x s.fits k.0;
      turns = turns_fit f x s.fits;
      steps = s;
      few = omega (arith, (opened_facts f w.opens).bounds.records);
    }

-- its arms of i and j records, and what comes after them
pub record Arms (f : List ℕ) (r end i j : ℕ) : Type 0 where
  pub inside : r + 1 + i + j ≤ end
  pub one : Walkable f (r + 1) (r + 1 + i)
  pub two : Walkable f (r + 1 + i) (r + 1 + i + j)
  pub rest : Walkable f (r + 1 + i + j) end

pub arms : {f : List ℕ} {r end : ℕ} {x : Fields} → Steps f r end x → (i j : ℕ) → i ≡ first_arm x → j ≡ second_arm x → Arms f r end i j
arms s i j e g = rw (e, g) (record { inside = s.inside; one = s.one; two = s.two; rest = s.rest })

-- a record of kind 1 to 5 has none
pub after_act : {f : List ℕ} {r end : ℕ} {x : Fields} → Steps f r end x → x.kind ≤ 5 → Walkable f (r + 1) end
after_act {r = r} {x = x} s k =
    let a = no_arms x (low_leaf x k) in
    let n : r + 1 + first_arm x + second_arm x ≡ r + 1 = omega (arith, a) in
    rw n at s.rest

-- a record's fields with this verb
abbrev pub acting : Verb → Fields → Action
acting v x = record { verb = v; side = side_of x.side; name = x.array; step = x.step; p = x.p; q = x.q }

-- the action of a record of kind 1 to 5, kind by kind
module _ (x : Fields) (h : (1 ≤ x.kind) × (x.kind ≤ 5)) where
  pub by_kind : (P : Action → Type 0) →
      (x.kind ≡ 1 → P (acting read x)) → (x.kind ≡ 2 → P (acting write x)) → (x.kind ≡ 3 → P (acting copy x)) →
      (x.kind ≡ 4 → P (acting need x)) → (x.kind ≡ 5 → P (acting mark x)) →
      P (action_of x)
  unfolding action_of
  by_kind P a b d e g = elim (ℕᴺ_discrete x.kind 1) [
    | yes z ↦ rw (eq-eqb x.kind 1 z) (a z)
    | no i ↦ elim (ℕᴺ_discrete x.kind 2) [
      | yes z ↦ rw (ne_eqb x.kind 1 i, eq-eqb x.kind 2 z) (b z)
      | no j ↦ elim (ℕᴺ_discrete x.kind 3) [
        | yes z ↦ rw (ne_eqb x.kind 1 i, ne_eqb x.kind 2 j, eq-eqb x.kind 3 z) (d z)
        | no k ↦ elim (ℕᴺ_discrete x.kind 4) [
          | yes z ↦ rw (ne_eqb x.kind 1 i, ne_eqb x.kind 2 j, ne_eqb x.kind 3 k, eq-eqb x.kind 4 z) (e z)
          | no l ↦ rw (ne_eqb x.kind 1 i, ne_eqb x.kind 2 j, ne_eqb x.kind 3 k, ne_eqb x.kind 4 l) (g (omega arith))
        ]
      ]
    ]
  ]
