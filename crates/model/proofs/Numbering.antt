-- Cells numbered through all arrays: a cell is in the span of one array, which is its own,
-- and the cells P to Q − 1 of an array are those from first + P up to first + Q, of which a step takes one in so many.
use Prim.Native.Nat.{ℕ, zero, suc, ◌+◌, ◌-◌, ◌*◌, ◌/◌, ◌%◌, ◌≤◌, ◌<◌, min}
use mathlib.Core.Path.{◌≡◌, refl, sym, ap, ◌∙◌}
use mathlib.Core.List.{List, [], ◌∷◌}
use mathlib.Core.Bool.{Bool, true, false, cond, ◌&&◌, and-true, and-false, false≢true}
use mathlib.Core.Logic.{inl, inr}
use native.Mathlib.Nat.{add-sub_cancel_left, suc-mul, zero-mod, mod-one, mod-lt, mod-eq_of_lt, mod-eq-sub-mod, mul-mod_left, div-add-mod', div-eq_of_lt, add-div_right}
use native.Mathlib.Decide.{dec_lt}
use native.Mathlib.Numerals.{add-one}
use native.Mathlib.Omega.{arith}
use lib.Arith.{digits_div}
use lib.ListN.{length, get_or}
use lib.Dec.{leb, ltb, eqb}
use borrow.Author.Tests.{ltb-true, ltb-false, lt-ltb, le-ltb, leb-true, leb-false, le-leb, lt-leb, eqb-true, eqb-false, eq-eqb, ne_eqb}
use Rattle.model.specs.Lists.{any, sum, sum_before, some_below, how_many}
use Rattle.model.specs.Sides.{Layout, cell_count, span_of, in_span, is_scratch, has_scratch, scratch_cell}
use Rattle.model.specs.Records.{whole, Action, distance, stepped, covers, cover_count}
use Rattle.model.specs.Claims.{ClaimCells, ClaimCovers}
use Rattle.model.specs.Inner.Holders.{holder, array_of}
use Rattle.model.proofs.Booleans.{or_out, or_left, or_right, or_none, and_out, and_in}

-- one of the numbers below n passes the test
module _ (f : ℕ → Bool) where
  pub some_in : (n k : ℕ) → k < n → f k ≡ true → some_below f n ≡ true
  some_in zero k h e = absurd (omega arith)
  some_in (suc n) k h e = elim (dec_lt k n) [
    | yes l ↦ or_right (f n) (some_below f n) (some_in n k l e)
    | no l ↦ let q : k ≡ n = omega arith in or_left (f n) (some_below f n) (rw q at e)
  ]

  pub some_out : (n : ℕ) → some_below f n ≡ true → (k : ℕ) × (k < n) × (f k ≡ true)
  some_out zero e = absurd (false≢true e)
  some_out (suc n) e = elim (or_out (f n) (some_below f n) e) [ inl q ↦ (n, omega arith, q) | inr q ↦ let (k, h, p) = some_out n q in (k, omega arith, p) ]

-- where none of a list holds, none of its places does
none_of : (l : List Bool) (n : ℕ) → any (λ b. b) l ≡ false → get_or l n false ≡ false
none_of [] n e = refl
none_of (b ∷ l) zero e = (or_none b _ e).0
none_of (b ∷ l) (suc n) e = none_of l n (or_none b _ e).1

-- a place is held where its holder's lengths begin and end
in_holder : (l : List ℕ) (c : ℕ) → c < sum l → (sum_before l (holder l c) ≤ c) × (c < sum_before l (holder l c) + get_or l (holder l c) 0)
unfolding sum_before holder
in_holder [] c h = absurd (omega arith)
in_holder (n ∷ l) c h = go (ltb c n) refl (in_holder l (c - n))
  where
    go : (b : Bool) → ltb c n ≡ b →
        (c - n < sum l → (sum_before l (holder l (c - n)) ≤ c - n) × (c - n < sum_before l (holder l (c - n)) + get_or l (holder l (c - n)) 0)) →
        (sum_before (n ∷ l) (cond b 0 (suc (holder l (c - n)))) ≤ c)
        × (c < sum_before (n ∷ l) (cond b 0 (suc (holder l (c - n)))) + get_or (n ∷ l) (cond b 0 (suc (holder l (c - n)))) 0)
    go true e ih = let k = ltb-true c n e in (omega arith, omega arith)
    go false e ih = let k = ltb-false c n e in let i = ih (omega arith) in (omega (arith, i.0), omega (arith, i.1))

-- and nowhere else
holder_from : (l : List ℕ) (a c : ℕ) → sum_before l a ≤ c → c < sum_before l a + get_or l a 0 → holder l c ≡ a
unfolding sum_before holder
holder_from [] a c h k = absurd (omega arith)
holder_from (n ∷ l) zero c h k = rw (lt_is (ltb c n) refl)
  where
    lt_is : (b : Bool) → ltb c n ≡ b → ltb c n ≡ true
    lt_is true e = e
    lt_is false e = let m = ltb-false c n e in absurd (omega arith)
holder_from (n ∷ l) (suc a) c h k = go (ltb c n) refl (holder_from l a (c - n))
  where
    go : (b : Bool) → ltb c n ≡ b → (sum_before l a ≤ c - n → c - n < sum_before l a + get_or l a 0 → holder l (c - n) ≡ a) → cond b 0 (suc (holder l (c - n))) ≡ suc a
    go true e ih = let m = ltb-true c n e in absurd (omega arith)
    go false e ih = let m = ltb-false c n e in ap suc (ih (omega arith) (omega arith))

holder_below : (l : List ℕ) (c : ℕ) → c < sum l → holder l c < length l
unfolding holder
holder_below [] c h = absurd (omega arith)
holder_below (n ∷ l) c h = go (ltb c n) refl (holder_below l (c - n))
  where
    go : (b : Bool) → ltb c n ≡ b → (c - n < sum l → holder l (c - n) < length l) → cond b 0 (suc (holder l (c - n))) < suc (length l)
    go true e ih = omega arith
    go false e ih = let k = ltb-false c n e in let i = ih (omega arith) in omega arith

-- what stands before a place, and at it, is part of the sum
pub ends_within : (l : List ℕ) (a : ℕ) → sum_before l a + get_or l a 0 ≤ sum l
unfolding sum_before
ends_within [] a = omega arith
ends_within (n ∷ l) zero = omega arith
ends_within (n ∷ l) (suc a) = let h = ends_within l a in omega arith

-- a number is stepped on if it lies so many steps after the first
pub on_step : (k low high c : ℕ) → stepped k low high c ≡ true → (i : ℕ) × (c ≡ low + i * k) × (c < high)
on_step k low high c e =
    let w₁ = and_out (leb low c) (ltb c high && eqb ((c - low) % k) 0) e in
    let w₂ = and_out (ltb c high) (eqb ((c - low) % k) 0) w₁.1 in
    let from = leb-true low c w₁.0 in
    let last = eqb-true ((c - low) % k) 0 w₂.1 in
    ((c - low) / k, omega (arith, div-add-mod' (c - low) k), ltb-true c high w₂.0)

pub step_on : (k low high i : ℕ) → low + i * k < high → stepped k low high (low + i * k) ≡ true
step_on k low high i h = rw (le-leb low (low + i * k) (omega arith), lt-ltb (low + i * k) high h, add-sub_cancel_left low (i * k), mul-mod_left i k)

pub stepped_bounds : (k low high c : ℕ) → stepped k low high c ≡ true → (low ≤ c) × (c < high)
stepped_bounds k low high c e = let w = on_step k low high c e in (omega (arith, w.1), w.2)

-- "0 and 1 mean each cell"
pub stepped_one : (low high c : ℕ) → stepped 1 low high c ≡ (leb low c && ltb c high)
stepped_one low high c = rw (eq-eqb ((c - low) % 1) 0 (mod-one (c - low)), and-true (ltb c high))

-- of the numbers c, c + k and so on below `to`, c is the first, the others are those from c + k on, and from `to` on there is none
module _ (k c to : ℕ) where
  pub stepped_first : c < to → stepped k c to c ≡ true
  stepped_first h =
      let z : c - c ≡ 0 = omega arith in
      and_in (leb c c) _ (le-leb c c (omega arith)) (and_in (ltb c to) _ (lt-ltb c to h) (eq-eqb ((c - c) % k) 0 (ap (λ d. d % k) z ∙ zero-mod k)))

  pub stepped_next : 1 ≤ k → (n : ℕ) → (n ≡ c → ⊥) → stepped k (c + k) to n ≡ stepped k c to n
  stepped_next some n e = elim (dec_lt n (c + k)) [
    | yes h ↦ elim (dec_lt n c) [
      | yes g ↦ rw (lt-leb (c + k) n h, lt-leb c n g)
      | no g ↦
          let z = mod-eq_of_lt {n = n - c} {m = k} (omega arith) in
          rw (lt-leb (c + k) n h, ne_eqb ((n - c) % k) 0 (λ q. e (omega arith)), and-false (ltb n to), and-false (leb c n))
    ]
    | no h ↦
        let z : n - c - k ≡ n - (c + k) = omega arith in
        rw (le-leb (c + k) n (omega arith), le-leb c n (omega arith), mod-eq-sub-mod {n = n - c} {m = k} (omega arith), z)
  ]

  pub stepped_none : to ≤ c → (n : ℕ) → stepped k c to n ≡ false
  stepped_none h n = elim (dec_lt n c) [
    | yes g ↦ rw (lt-leb c n g)
    | no g ↦ rw (le-ltb n to (omega arith)) (and-false (leb c n))
  ]

-- division by the distance, rounded up: one more where a step begins
module _ (k d : ℕ) (some : 1 ≤ k) where
  ends_step : d % k ≡ 0 → (d + (k - 1)) / k ≡ d / k
  ends_step e = ap (λ n. n / k) (omega (arith, div-add-mod' d k)) ∙ digits_div (d / k) {m = k} {r = k - 1} (omega arith)

  in_step : 0 < d % k → (d + (k - 1)) / k ≡ suc (d / k)
  in_step h =
      ap (λ n. n / k) (omega (arith, div-add-mod' d k, suc-mul (d / k) k)) ∙ digits_div (suc (d / k)) {m = k} {r = d % k - 1} (omega (arith, mod-lt d {m = k} some))

  next_step : cond (eqb (d % k) 0) (suc ((d + (k - 1)) / k)) ((d + (k - 1)) / k) ≡ (suc d + (k - 1)) / k
  next_step = go (eqb (d % k) 0) refl ∙ sym (add-div_right d {k = k} some ∙ add-one (d / k)) ∙ ap (λ n. n / k) (omega arith)
    where
      go : (b : Bool) → eqb (d % k) 0 ≡ b → cond b (suc ((d + (k - 1)) / k)) ((d + (k - 1)) / k) ≡ suc (d / k)
      go true e = ap suc (ends_step (eqb-true _ 0 e))
      go false e = let n = eqb-false (d % k) 0 e in in_step (omega arith)

-- how many numbers below n are stepped on
stepped_count : (f : ℕ → Bool) (k low high n : ℕ) → 1 ≤ k → ((c : ℕ) → f c ≡ stepped k low high c) → how_many f n ≡ (min n high - low + (k - 1)) / k
stepped_count f k low high zero some h = sym (div-eq_of_lt (omega arith))
stepped_count f k low high (suc n) some h = rw (h n) (go (stepped_count f k low high n some h) (leb low n) refl (ltb n high) refl)
  where
    go : how_many f n ≡ (min n high - low + (k - 1)) / k → (a : Bool) → leb low n ≡ a → (b : Bool) → ltb n high ≡ b →
        cond (a && (b && eqb ((n - low) % k) 0)) (suc (how_many f n)) (how_many f n) ≡ (min (suc n) high - low + (k - 1)) / k
    go before true p true q =
        let i = leb-true low n p in
        let j = ltb-true n high q in
        let here : min n high - low ≡ n - low = omega arith in
        let next : min (suc n) high - low ≡ suc (n - low) = omega arith in
        rw (before, here, next) (next_step k (n - low) some)
    go before true p false q = let j = ltb-false n high q in before ∙ ap (λ m. (m + (k - 1)) / k) (omega arith)
    go before false p b q = let i = leb-false low n p in before ∙ ap (λ m. (m + (k - 1)) / k) (omega arith)

module _ (layout : Layout) where
  -- a cell is one of its array's cells
  pub in_array : (c : ℕ) → c < cell_count layout →
      ((span_of layout (array_of layout c)).first ≤ c) × (c < (span_of layout (array_of layout c)).first + (span_of layout (array_of layout c)).length)
  in_array c h = in_holder layout.lengths c h

  -- and of no other
  pub array_from : (a c : ℕ) → (span_of layout a).first ≤ c → c < (span_of layout a).first + (span_of layout a).length → array_of layout c ≡ a
  array_from a c = holder_from layout.lengths a c

  -- an array ends within the cells
  pub array_ends : (a : ℕ) → (span_of layout a).first + (span_of layout a).length ≤ cell_count layout
  array_ends a = ends_within layout.lengths a

  -- the bounds of a cell of an array
  pub in_bounds : (a c : ℕ) → in_span (span_of layout a) c ≡ true → ((span_of layout a).first ≤ c) × (c < (span_of layout a).first + (span_of layout a).length)
  in_bounds a c e = let p = and_out (leb (span_of layout a).first c) _ e in (leb-true _ c p.0, ltb-true c _ p.1)

  pub bounds_in : (a c : ℕ) → (span_of layout a).first ≤ c → c < (span_of layout a).first + (span_of layout a).length → in_span (span_of layout a) c ≡ true
  bounds_in a c h k = and_in _ _ (le-leb (span_of layout a).first c h) (lt-ltb c ((span_of layout a).first + (span_of layout a).length) k)

  -- its array is the one that has it
  pub span_own : (a c : ℕ) → in_span (span_of layout a) c ≡ true → array_of layout c ≡ a
  span_own a c e = let p = in_bounds a c e in array_from a c p.0 p.1

  pub span_within : (a c : ℕ) → in_span (span_of layout a) c ≡ true → c < cell_count layout
  span_within a c e = let p = in_bounds a c e in omega (arith, p.1, array_ends a)

  pub own_span : (c : ℕ) → c < cell_count layout → in_span (span_of layout (array_of layout c)) c ≡ true
  own_span c h = let p = in_array c h in bounds_in (array_of layout c) c p.0 p.1

  -- whether an array has the cell
  pub in_own : (c : ℕ) → c < cell_count layout → (a : ℕ) → in_span (span_of layout a) c ≡ eqb (array_of layout c) a
  in_own c h a = go (in_span (span_of layout a) c) (eqb (array_of layout c) a) refl refl
    where
      go : (x y : Bool) → in_span (span_of layout a) c ≡ x → eqb (array_of layout c) a ≡ y → x ≡ y
      go true y e f = sym (eq-eqb _ _ (span_own a c e)) ∙ f
      go false false e f = refl
      go false true e f = sym e ∙ (rw (eqb-true (array_of layout c) a f) at (own_span c h))

  -- a cell is scratch if its array is
  pub scratch_own : (c : ℕ) → c < cell_count layout → scratch_cell layout c ≡ is_scratch layout (array_of layout c)
  scratch_own c h = go (scratch_cell layout c) (is_scratch layout (array_of layout c)) refl refl
    where
      go : (x y : Bool) → scratch_cell layout c ≡ x → is_scratch layout (array_of layout c) ≡ y → x ≡ y
      go true y e f =
          let (n, l, q) = some_out _ (length layout.lengths) e in
          let p = and_out (is_scratch layout n) (in_span (span_of layout n) c) q in
          sym p.0 ∙ (ap (is_scratch layout) (sym (span_own n c p.1)) ∙ f)
      go false true e f =
          sym e ∙ some_in _ (length layout.lengths) (array_of layout c) (holder_below layout.lengths c h) (and_in (is_scratch layout (array_of layout c)) _ f (own_span c h))
      go false false e f = refl

  pub none_scratch : has_scratch layout ≡ false → (n : ℕ) → is_scratch layout n ≡ false
  none_scratch e n = none_of layout.scratch n e

  -- the cells of a record are of its array
  pub covers_array : (x : Action) (c : ℕ) → covers layout x c ≡ true → array_of layout c ≡ x.name
  unfolding covers
  covers_array x c e = span_own x.name c (and_out (in_span (span_of layout x.name) c) _ e).0

  -- of a record that speaks of the whole array
  pub covers_whole : (x : Action) (c : ℕ) → whole x.verb ≡ true → covers layout x c ≡ in_span (span_of layout x.name) c
  unfolding covers
  covers_whole x c w = rw w (and-true (in_span (span_of layout x.name) c))

  -- else, where they end within it, they are the cell numbers of one range that are stepped on
  pub covers_range : (x : Action) (c : ℕ) → whole x.verb ≡ false → x.q ≤ (span_of layout x.name).length →
      covers layout x c ≡ stepped (distance x.step) ((span_of layout x.name).first + x.p) ((span_of layout x.name).first + x.q) c
  unfolding covers
  covers_range x c w h = rw w (go (stepped (distance x.step) ((span_of layout x.name).first + x.p) ((span_of layout x.name).first + x.q) c) refl)
    where
      go : (b : Bool) → stepped (distance x.step) ((span_of layout x.name).first + x.p) ((span_of layout x.name).first + x.q) c ≡ b → (in_span (span_of layout x.name) c && b) ≡ b
      go true e =
          let p = stepped_bounds (distance x.step) ((span_of layout x.name).first + x.p) ((span_of layout x.name).first + x.q) c e in
          rw (bounds_in x.name c (omega (arith, p.0)) (omega (arith, p.1)))
      go false e = and-false (in_span (span_of layout x.name) c)

  -- how many they are
  pub ranged_count : (x : Action) → whole x.verb ≡ false → x.q ≤ (span_of layout x.name).length →
      cover_count layout x ≡ (x.q - x.p + (distance x.step - 1)) / distance x.step
  unfolding cover_count
  ranged_count x w h =
      stepped_count (covers layout x) (distance x.step) ((span_of layout x.name).first + x.p) ((span_of layout x.name).first + x.q) (cell_count layout) (omega arith) (λ c. covers_range x c w h)
      ∙ ap (λ n. (n + (distance x.step - 1)) / distance x.step) (omega (arith, array_ends x.name))

  pub whole_count : (x : Action) → whole x.verb ≡ true → cover_count layout x ≡ (span_of layout x.name).length
  unfolding cover_count
  whole_count x w =
      let first = (span_of layout x.name).first in
      stepped_count (covers layout x) 1 first (first + (span_of layout x.name).length) (cell_count layout) (omega arith) (λ c. covers_whole x c w ∙ sym (stepped_one first _ c))
      ∙ omega (arith, array_ends x.name)

pub one_array : ClaimCells
one_array layout c h = (array_of layout c, own_span layout c h, λ b e. sym (span_own layout b c e))

pub these_cells : ClaimCovers
these_cells layout x w h = (
  ranged_count layout x w h,
  λ c.
      let k = distance x.step in
      let low = (span_of layout x.name).first + x.p in
      let high = (span_of layout x.name).first + x.q in
      let range = covers_range layout x c w h in
      (λ e. on_step k low high c (sym range ∙ e), λ p. range ∙ rw p.1 (step_on k low high p.0 (rw p.1 at p.2))),
)
