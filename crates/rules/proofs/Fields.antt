-- Number 8: the rule of the fields, kind by kind.
use mathlib.Core.Path.{◌≡◌}
use mathlib.Core.Bool.{true, false, ◌&&◌, and-false}
use mathlib.Core.List.{List}
use Prim.Native.Nat.{ℕ, ◌≤◌, ◌<◌}
use native.Mathlib.Decide.{dec_lt}
use native.Mathlib.Omega.{arith}
use lib.Dec.{ltb, leb, eqb}
use borrow.Author.Tests.{eq-eqb, ne_eqb, le-ltb}
use Rattle.reading.specs.declared.Fields.{Fields}
use Rattle.reading.specs.Bytes.{array_count, body_count, length_at, between}
use Rattle.rules.specs.Rules.{fields_fit}
use Rattle.reading.proofs.Ranges.{in_range, out_of_range}

-- the numbers that the rule asks for: arrays, bodies, the length of the record's array
pub record Sizes (f : List ℕ) (x : Fields) (arrays bodies size : ℕ) : Type 0 where
  pub arrays_are : arrays ≡ array_count f
  pub bodies_are : bodies ≡ body_count f
  pub size_is : size ≡ length_at f x.array

module _ (f : List ℕ) (x : Fields) (n m s : ℕ) (z : Sizes f x n m s) where
  pub fit_cells : 1 ≤ x.kind → x.kind ≤ 3 → (ltb x.side 2 && ltb x.array n && ltb x.p x.q && leb x.q s) ≡ fields_fit f x
  unfolding fields_fit
  fit_cells h k = simp (in_range 1 3 x.kind h k) (rw (z.arrays_are, z.size_is))

  -- the length of the array read only where the array is one
  pub fit_cells_read : (size : ℕ) → (x.array < array_count f → size ≡ length_at f x.array) → 1 ≤ x.kind → x.kind ≤ 3 → (ltb x.side 2 && ltb x.array n && ltb x.p x.q && leb x.q size) ≡ fields_fit f x
  fit_cells_read size read h k = elim (dec_lt x.array (array_count f)) [
    | yes l ↦ rw (read l, ← z.size_is) (fit_cells h k)
    | no l ↦ rw (← fit_cells h k, z.arrays_are, le-ltb x.array (array_count f) (omega arith), and-false (ltb x.side 2))
  ]

  pub fit_array : 4 ≤ x.kind → x.kind ≤ 5 → (ltb x.side 2 && ltb x.array n && eqb x.step 0 && eqb x.p 0 && eqb x.q 0) ≡ fields_fit f x
  unfolding fields_fit
  fit_array h k = simp (out_of_range 1 3 x.kind (λ u v. omega arith), in_range 4 5 x.kind h k) (rw z.arrays_are)

  pub fit_declaration : 16 ≤ x.kind → x.kind ≤ 18 → (ltb x.side 2 && ltb x.array n && eqb x.step 0 && eqb x.p 0 && eqb x.q 0) ≡ fields_fit f x
  unfolding fields_fit
  fit_declaration h k = simp (out_of_range 1 3 x.kind (λ u v. omega arith), out_of_range 4 5 x.kind (λ u v. omega arith), in_range 16 18 x.kind h k) (rw z.arrays_are)

  module _ (h : 6 ≤ x.kind) (k : x.kind ≤ 9) where
    low : between 1 3 x.kind ≡ false
    low = out_of_range 1 3 x.kind (λ u v. omega arith)

    middle : between 4 5 x.kind ≡ false
    middle = out_of_range 4 5 x.kind (λ u v. omega arith)

    high : between 16 18 x.kind ≡ false
    high = out_of_range 16 18 x.kind (λ u v. omega arith)

  pub fit_branch : x.kind ≡ 6 → (eqb x.side 0 && eqb x.array 0 && eqb x.step 0) ≡ fields_fit f x
  unfolding fields_fit
  fit_branch h = simp (low (omega arith) (omega arith), middle (omega arith) (omega arith), high (omega arith) (omega arith), eq-eqb x.kind 6 h)

  pub fit_loop : x.kind ≡ 7 → (eqb x.side 0 && eqb x.array 0 && eqb x.step 0 && eqb x.q 0) ≡ fields_fit f x
  unfolding fields_fit
  fit_loop h = simp (low (omega arith) (omega arith), middle (omega arith) (omega arith), high (omega arith) (omega arith), ne_eqb x.kind 6 (λ u. omega arith), eq-eqb x.kind 7 h)

  pub fit_call : x.kind ≡ 8 → (eqb x.side 0 && eqb x.array 0 && eqb x.step 0 && eqb x.q 0 && leb 1 x.p && ltb x.p m) ≡ fields_fit f x
  unfolding fields_fit
  fit_call h = simp (low (omega arith) (omega arith), middle (omega arith) (omega arith), high (omega arith) (omega arith), ne_eqb x.kind 6 (λ u. omega arith), ne_eqb x.kind 7 (λ u. omega arith), eq-eqb x.kind 8 h) (rw z.bodies_are)

  pub fit_fixed : x.kind ≡ 9 → (eqb x.side 0 && eqb x.array 0 && eqb x.step 0 && (leb 1 x.q && leb x.q 4096)) ≡ fields_fit f x
  unfolding fields_fit
  fit_fixed h =
      simp (
        low (omega arith) (omega arith),
        middle (omega arith) (omega arith),
        high (omega arith) (omega arith),
        ne_eqb x.kind 6 (λ u. omega arith),
        ne_eqb x.kind 7 (λ u. omega arith),
        ne_eqb x.kind 8 (λ u. omega arith),
        eq-eqb x.kind 9 h,
      )

  -- kinds 0, 10 to 15 "and 19 to 255 are unknown: .. no field tested"
  pub fit_unknown : (1 ≤ x.kind → x.kind ≤ 9 → ⊥) → (16 ≤ x.kind → x.kind ≤ 18 → ⊥) → true ≡ fields_fit f x
  unfolding fields_fit
  fit_unknown h k =
      simp (
        out_of_range 1 3 x.kind (λ u v. h u (omega arith)),
        out_of_range 4 5 x.kind (λ u v. h (omega arith) (omega arith)),
        out_of_range 16 18 x.kind k,
        ne_eqb x.kind 6 (λ u. h (omega arith) (omega arith)),
        ne_eqb x.kind 7 (λ u. h (omega arith) (omega arith)),
        ne_eqb x.kind 8 (λ u. h (omega arith) (omega arith)),
        ne_eqb x.kind 9 (λ u. h (omega arith) (omega arith)),
      )
