-- Sets of statuses as the bits of a number.
use Prim.Native.Nat.{ℕ, zero, suc, ◌+◌, ◌-◌, ◌*◌, ◌/◌, ◌%◌, ◌^◌, ◌<◌}
use mathlib.Core.Path.{◌≡◌, refl, sym, ap, ◌∙◌}
use mathlib.Core.Logic.{◌⊎◌, inl, inr}
use mathlib.Core.Bool.{Bool, true, false, not, ◌&&◌, ◌||◌, beq, false≢true}
use native.Mathlib.Omega.{arith}
use native.Mathlib.Nat.{add_comm, zero-div, div-lt_iff_lt-mul, zero-lt-suc, pow-suc, pow-succ', div-one, div-div-eq-div-mul}
use native.Mathlib.Numerals.{add-one}
use native.Mathlib.Decide.{dec_lt}
use lib.Dec.{eqb}
use lib.Bits.{bit_and, bit_or, bit_xor, and_shr, and_mod, and_high, or_shr, or_mod, or_add_and, xor_shr, xor_mod, xor_add_and}
use lib.Count.{count_trailing_zeros, under, trailing_le}
use lib.Pow.{pow_pos}
use borrow.Author.Tests.{eqb-true, eqb-false, eq-eqb}
use Rattle.statuses.specs.Inner.Sets.{statuses, bit}
use Rattle.statuses.proofs.Tests.{beq_true, all_below, all_below_at}

two_cases : (n : ℕ) → (n % 2 ≡ 0) ⊎ (n % 2 ≡ 1)
two_cases n = cases (n % 2) (omega arith)
  where
    cases : (k : ℕ) → k < 2 → (k ≡ 0) ⊎ (k ≡ 1)
    cases zero h = inl refl
    cases (suc zero) h = inr refl
    cases (suc (suc k)) h = absurd (omega arith)

pub bit_or_lem : (a b i : ℕ) → bit (bit_or a b) i ≡ (bit a i || bit b i)
unfolding bit
bit_or_lem a b i = rw (or_shr a b i, or_mod (a / 2 ^ i) (b / 2 ^ i) 1) (go (a / 2 ^ i) (b / 2 ^ i) (two_cases (a / 2 ^ i)) (two_cases (b / 2 ^ i)))
  where
    go : (x y : ℕ) → (x % 2 ≡ 0) ⊎ (x % 2 ≡ 1) → (y % 2 ≡ 0) ⊎ (y % 2 ≡ 1) → eqb (bit_or (x % 2) (y % 2)) 1 ≡ (eqb (x % 2) 1 || eqb (y % 2) 1)
    go x y (inl p) (inl q) = rw (p, q)
    go x y (inl p) (inr q) = rw (p, q)
    go x y (inr p) (inl q) = rw (p, q)
    go x y (inr p) (inr q) = rw (p, q)

pub bit_and_lem : (a b i : ℕ) → bit (bit_and a b) i ≡ (bit a i && bit b i)
unfolding bit
bit_and_lem a b i = ap (λ (x : ℕ). eqb (x % 2) 1) (and_shr a b i) ∙ (ap (λ (x : ℕ). eqb x 1) (and_mod (a / 2 ^ i) (b / 2 ^ i) 1) ∙ go (a / 2 ^ i % 2) (b / 2 ^ i % 2) (two_cases (a / 2 ^ i)) (two_cases (b / 2 ^ i)))
  where
    go : (x y : ℕ) → (x ≡ 0) ⊎ (x ≡ 1) → (y ≡ 0) ⊎ (y ≡ 1) → eqb (bit_and x y) 1 ≡ (eqb x 1 && eqb y 1)
    go x y (inl p) (inl q) = cc
    go x y (inl p) (inr q) = cc
    go x y (inr p) (inl q) = cc
    go x y (inr p) (inr q) = cc

-- one of two, and not both
abbrev differs : Bool → Bool → Bool
differs true b = not b
differs false b = b

bit_xor_lem : (a b i : ℕ) → bit (bit_xor a b) i ≡ differs (bit a i) (bit b i)
unfolding bit
bit_xor_lem a b i = rw (xor_shr a b i, xor_mod (a / 2 ^ i) (b / 2 ^ i) 1) (go (a / 2 ^ i) (b / 2 ^ i) (two_cases (a / 2 ^ i)) (two_cases (b / 2 ^ i)))
  where
    go : (x y : ℕ) → (x % 2 ≡ 0) ⊎ (x % 2 ≡ 1) → (y % 2 ≡ 0) ⊎ (y % 2 ≡ 1) → eqb (bit_xor (x % 2) (y % 2)) 1 ≡ differs (eqb (x % 2) 1) (eqb (y % 2) 1)
    go x y (inl p) (inl q) = rw (p, q)
    go x y (inl p) (inr q) = rw (p, q)
    go x y (inr p) (inl q) = rw (p, q)
    go x y (inr p) (inr q) = rw (p, q)

pub bit_without : (a b i : ℕ) → bit (bit_xor a (bit_and a b)) i ≡ (bit a i && not (bit b i))
bit_without a b i = rw (bit_xor_lem, bit_and_lem) (go (bit a i) (bit b i))
  where
    go : (x y : Bool) → differs x (x && y) ≡ (x && not y)
    go true y = refl
    go false y = refl

-- the empty set
pub bit_none : (i : ℕ) → bit 0 i ≡ false
unfolding bit
bit_none i = rw (zero-div (2 ^ i))

-- the lowest status of a set that has one
tz_odd : (d q : ℕ) → 0 < q → q < 2 ^ d → q / 2 ^ count_trailing_zeros d q % 2 ≡ 1
unfolding count_trailing_zeros
tz_odd zero q h k = absurd (omega arith)
tz_odd (suc d) q h k = go (q % 2) refl (λ e. tz_odd d (q / 2) (omega arith) ((div-lt_iff_lt-mul (zero-lt-suc 1)).1 (rw (pow-suc 2 d) at k)))
  where
    go : (r : ℕ) → q % 2 ≡ r → (q % 2 ≡ 0 → q / 2 / 2 ^ count_trailing_zeros d (q / 2) % 2 ≡ 1) → q / 2 ^ under r (count_trailing_zeros d (q / 2)) % 2 ≡ 1
    go zero e ih =
        let t = count_trailing_zeros d (q / 2) in
        ap (λ (x : ℕ). x % 2) (ap (λ (x : ℕ). q / x) (pow-succ' 2 t) ∙ sym (div-div-eq-div-mul q 2 (2 ^ t))) ∙ ih e
    go (suc r) e ih = ap (λ (x : ℕ). x % 2) (div-one q) ∙ (omega arith)

module _ (set : ℕ) (h : 0 < set) (k : set < 65536) where
  pub lowest_bit : bit set (count_trailing_zeros statuses set) ≡ true
  unfolding bit
  lowest_bit = eq-eqb _ 1 (tz_odd statuses set h k)

  pub lowest_low : count_trailing_zeros statuses set < statuses
  lowest_low = elim (dec_lt (count_trailing_zeros statuses set) statuses) [
    | yes l ↦ l
    | no l ↦ let e : count_trailing_zeros statuses set ≡ statuses = omega (arith, trailing_le statuses set) in
        let o = tz_odd statuses set h k in
        absurd (past (rw e at o))
  ]
    where
      past : set / 2 ^ statuses % 2 ≡ 1 → ⊥
      past o = omega arith

-- none is in the empty set
pub no_bit : (set i : ℕ) → set ≡ 0 → bit set i ≡ true → ⊥
no_bit set i e b = false≢true (sym (rw e (bit_none i)) ∙ b)

-- the set of status w, as the code computes it
abbrev pub one : ℕ → ℕ
one w = 1 * 2 ^ w % 65536

module _ (w : ℕ) (h : w < statuses) where
  one_is : one w ≡ 2 ^ w
  one_is = eqb-true _ _ (all_below_at (λ k. eqb (one k) (2 ^ k)) statuses refl w h)

  pub bit_one : (i : ℕ) → i < statuses → bit (one w) i ≡ eqb i w
  unfolding bit
  bit_one i l = beq_true _ _ (all_below_at (λ j. beq (bit (one w) j) (eqb j w)) statuses
      (all_below_at (λ k. all_below (λ j. beq (bit (one k) j) (eqb j k)) statuses) statuses refl w h) i l)

  module _ (set : ℕ) where
    and_one : bit_and set (2 ^ w) ≡ set / 2 ^ w % 2 * 2 ^ w
    and_one = let d : 2 ^ (1 + w) ≡ 2 ^ w * 2 = ap (λ (x : ℕ). 2 ^ x) (add_comm 1 w) ∙ (rw add-one (pow-suc 2 w)) in let e : 2 ^ (1 + w) - 2 ^ w ≡ 2 ^ w = omega arith in ap (bit_and set) (sym e) ∙ and_high set 1 w

    pub with_more : bit set w ≡ false → set < bit_or set (one w)
    unfolding bit
    with_more b = rw one_is (elim (two_cases (set / 2 ^ w)) [
      | inl e ↦ let a : bit_and set (2 ^ w) ≡ 0 = and_one ∙ rw e (omega arith) in omega (arith, or_add_and set (2 ^ w), pow_pos w)
      | inr e ↦ absurd (eqb-false _ 1 b e)
    ])

    pub bit_with : (i : ℕ) → i < statuses → bit (bit_or set (one w)) i ≡ (eqb i w || bit set i)
    bit_with i l = rw (bit_or_lem, bit_one i l) (go (bit set i) (eqb i w))
      where
        go : (x y : Bool) → (x || y) ≡ (y || x)
        go true true = refl
        go true false = refl
        go false true = refl
        go false false = refl

    module _ (b : bit set w ≡ true) where
      pub dropped_less : bit_xor set (one w) < set
      unfolding bit
      dropped_less =
          let e : set / 2 ^ w % 2 ≡ 1 = eqb-true _ 1 b in
          let a : bit_and set (2 ^ w) ≡ 2 ^ w = and_one ∙ rw e (omega arith) in
          rw one_is (omega (arith, xor_add_and set (2 ^ w), pow_pos w))

      pub bit_dropped : (i : ℕ) → i < statuses → bit (bit_xor set (one w)) i ≡ (not (eqb i w) && bit set i)
      bit_dropped i l = rw (bit_xor_lem, bit_one i l) (go (eqb i w) refl)
        where
          go : (y : Bool) → eqb i w ≡ y → differs (bit set i) y ≡ (not y && bit set i)
          go true e = rw (eqb-true i w e, b)
          go false e = kept (bit set i)
            where
              kept : (x : Bool) → differs x false ≡ x
              kept true = refl
              kept false = refl
