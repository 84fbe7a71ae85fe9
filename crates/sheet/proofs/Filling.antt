-- The figures as the code puts them, record by record.
use Prim.Native.Nat.{ℕ, zero, suc, ◌+◌, ◌-◌, ◌*◌, ◌/◌, ◌^◌, ◌≤◌, ◌<◌}
use mathlib.Core.Path.{◌≡◌, refl, ap, ap₂, sym, ◌∙◌}
use mathlib.Core.List.{List, [], ◌∷◌, ◌++◌}
use native.Mathlib.Omega.{arith}
use native.Mathlib.Nat.{sub-zero, pow-succ', pow-le-pow_right, one-le-pow, mul-div_cancel_left, mul-le-mul_left}
use native.Mathlib.Numerals.{add-one}
use lib.ListN.{length, take, drop, set, length-append, length-drop, length-set}
use lib.Seq.{take-suc-set, drop-set-lt, drop-drop, append_snoc, set_split}
use lib.Dec.{ltb}
use borrow.Author.Tests.{lt-ltb, le-ltb, ltb-false}
use Rattle.model.specs.Verdicts.{Accepted, Refused}
use Rattle.model.specs.Rows.{answer_of}
use Rattle.model.proofs.Rows.{skipped}
use Rattle.sheet.specs.Sheets.{sheet_answer, sheet_figures, figures as figures_of}
use Rattle.sheet.proofs.Counting.{counted, figures_counted}

-- no count passes 6^24, which is below 2^63
pub power_fits : (i : ℕ) → i ≤ 24 → 6 ^ i ≤ 6 ^ 24
power_fits i h = pow-le-pow_right {n = 6} (omega arith) h

pub power_more : (i : ℕ) → 6 * 6 ^ i ≡ 6 ^ (i + 1)
power_more i = rw add-one (sym (pow-succ' 6 i))

-- the figures before record r are put, the others are as they were, and the counts before it give those that follow
pub record Filled (n : ℕ) (before : List ℕ) (r one both rest : ℕ) (figures : List ℕ) : Type 0 where
  pub small : n ≤ 24
  pub room : n < length before
  pub inside : r ≤ n
  pub same : length figures ≡ length before
  pub follow : rest ≡ 6 ^ (n - r)
  pub fits : (one + both) * rest ≤ 6 ^ 24
  pub front : take r figures ++ counted (n - r) one both ≡ counted n 1 0
  pub back : drop r figures ≡ drop r before

pub filled_first : (n rest : ℕ) (before : List ℕ) → n ≤ 24 → n < length before → rest ≡ 6 ^ n → Filled n before 0 1 0 rest before
filled_first n rest before h l e = record {
  small = h;
  room = l;
  inside = omega arith;
  same = refl;
  follow = rw sub-zero e;
  fits = omega (arith, power_fits n h);
  front = rw sub-zero;
  back = refl;
}

drop_more : (l m : List ℕ) (i : ℕ) → drop i l ≡ drop i m → drop (i + 1) l ≡ drop (i + 1) m
drop_more l m i e = sym (drop-drop 1 i l) ∙ (ap (drop 1) e ∙ drop-drop 1 i m)

module _ (n : ℕ) (before : List ℕ) (r one both rest : ℕ) (figures : List ℕ) (f : Filled n before r one both rest figures) where
  module _ (below : r < n) where
    abbrev behind : ℕ
    behind = n - (r + 1)

    left : n - r ≡ suc behind
    left = omega arith

    six : rest ≡ 6 * 6 ^ behind
    six = f.follow ∙ (ap (λ k. 6 ^ k) left ∙ pow-succ' 6 behind)

    divided : rest / 6 ≡ 6 ^ behind
    divided = ap (λ k. k / 6) six ∙ mul-div_cancel_left (6 ^ behind) (omega arith)

    -- nothing is lost by the division
    whole : (one + both) * (6 * (rest / 6)) ≤ 6 ^ 24
    whole = rw (six ∙ ap (λ k. 6 * k) (sym divided)) at f.fits

    -- the sums and products of a turn fit
    pub passed_fits : one + both ≤ 6 ^ 23
    passed_fits = let p : 1 ≤ rest / 6 = rw divided (one-le-pow behind 6 (omega arith)) in omega (arith, whole, mul-le-mul_left (one + both) p)

    pub stops_fit : 2 * one * (rest / 6) ≤ 6 ^ 24
    stops_fit = omega (arith, whole)

    abbrev put : List ℕ
    put = set figures r (2 * one * (rest / 6))

    front_put : take (r + 1) put ++ counted behind (3 * one + 2 * both) (one + 4 * both) ≡ counted n 1 0
    front_put =
        let later = counted behind (3 * one + 2 * both) (one + 4 * both) in
        ap (λ l. l ++ later) (ap (λ k. take k put) (add-one r) ∙ take-suc-set figures r (2 * one * (rest / 6)) (omega (arith, f.same, f.room)))
        ∙ (append_snoc (take r figures) (2 * one * (rest / 6)) later
        ∙ (ap (λ l. take r figures ++ l) (ap (λ k. 2 * one * k ∷ later) divided ∙ sym (ap (λ k. counted k one both) left)) ∙ f.front))

    pub filled_next : Filled n before (r + 1) (3 * one + 2 * both) (one + 4 * both) (rest / 6) put
    filled_next = record {
      small = f.small;
      room = f.room;
      inside = omega arith;
      same = length-set figures r _ ∙ f.same;
      follow = divided;
      fits = omega (arith, whole);
      front = front_put;
      back = drop-set-lt (r + 1) figures r _ (omega arith) ∙ drop_more figures before r f.back;
    }

  module _ (past : n ≤ r) where
    ends : r ≡ n
    ends = omega (arith, f.inside)

    pub last_fits : one + both ≤ 6 ^ 24
    last_fits = let p : 1 ≤ rest = rw f.follow (one-le-pow (n - r) 6 (omega arith)) in omega (arith, f.fits, mul-le-mul_left (one + both) p)

    front_last : take n figures ++ ((one + both) ∷ []) ≡ figures_of n
    front_last = ap (λ k. take k figures ++ ((one + both) ∷ [])) (sym ends) ∙ (ap (λ k. take r figures ++ counted k one both) none_left ∙ (f.front ∙ sym (figures_counted n)))
      where
        none_left : 0 ≡ n - r
        none_left = omega arith

    back_last : drop (suc n) figures ≡ drop (suc n) before
    back_last = rw (add-one, ends) at (drop_more figures before r f.back)

    pub filled_last : set figures n (one + both) ≡ sheet_figures n before
    unfolding sheet_figures sheet_answer answer_of
    filled_last =
        rw (le-ltb 24 n f.small)
        (set_split figures n (one + both) (omega (arith, f.same, f.room))
        ∙ (sym (append_snoc (take n figures) (one + both) (drop (suc n) figures)) ∙ ap₂ ◌++◌ front_last back_last))

-- 38, with all figures as they were, and else accepted
pub above : (n : ℕ) → 24 < n → Refused 38 0 ≡ sheet_answer n
unfolding sheet_answer answer_of
above n h = rw (lt-ltb 24 n h)

pub above_kept : (n : ℕ) (before : List ℕ) → 24 < n → before ≡ sheet_figures n before
unfolding sheet_figures sheet_answer answer_of
above_kept n before h = rw (lt-ltb 24 n h)

pub up_to : (n : ℕ) → n ≤ 24 → Accepted ≡ sheet_answer n
unfolding sheet_answer answer_of
up_to n h = rw (le-ltb 24 n h)

pub answered : (n : ℕ) → Accepted ≡ sheet_answer n → n ≤ 24
unfolding sheet_answer
answered n e = ltb-false 24 n (skipped (ltb 24 n) 38 0 [] e).0

length_counted : (n one both : ℕ) → length (counted n one both) ≡ suc n
length_counted zero one both = refl
length_counted (suc n) one both = ap suc (length_counted n (3 * one + 2 * both) (one + 4 * both))

-- no figure more and none less
pub kept : (n : ℕ) (before : List ℕ) → n ≤ 24 → n < length before → length (sheet_figures n before) ≡ length before
unfolding sheet_figures sheet_answer answer_of
kept n before h l =
    rw (le-ltb 24 n h)
    (simp (length-append, length-drop, figures_counted n, length_counted n 1 0) (omega arith))
