-- Bytes over the front of the old ones: a byte more, the same bytes once more, the check bytes behind them.
use mathlib.Core.Path.{◌≡◌, refl, sym, ◌∙◌}
use mathlib.Core.List.{List, [], ◌∷◌, ◌++◌, append_assoc}
use Prim.Native.Nat.{ℕ, suc, ◌+◌, ◌-◌, ◌%◌, ◌≤◌, ◌<◌}
use native.Mathlib.Numerals.{add-one}
use native.Mathlib.Omega.{arith}
use lib.ListN.{length, take, drop, get_or, set, length-append, length-take, take-append-drop}
use lib.Seq.{take_at, drop_at, drop-drop, drop-cons, take-suc, set_at, length-take-le}
use borrow.Rule.Slice.PartMut.{mid_of, put_mid}
use Rattle.sums.specs.Sums.{plain_sum, weighted_sum, check_bytes}
use Rattle.given.specs.Inner.Over.{over}
use Rattle.given.proofs.Over.{over_lent}

-- a part of other bytes that has so much room
pub part_fits : (n m : ℕ) (f : List ℕ) (k : ℕ) → n ≤ k → length (take n (drop m f)) ≤ k
part_fits n m f k h = omega (arith, length-take n (drop m f))

-- the same bytes written once more, with others behind them
pub over_again : (new more old : List ℕ) → over (new ++ more) (over new old) ≡ over (new ++ more) old
unfolding over
over_again new more old =
    let e : drop (length (new ++ more)) (new ++ drop (length new) old) ≡ drop (length (new ++ more)) old =
    rw length-append (sym (drop-drop (length more) (length new) (new ++ drop (length new) old)) ∙ rw (drop_at new (drop (length new) old) (length new) refl) (drop-drop (length more) (length new) old)) in
    rw e

pub over_front : (new old : List ℕ) → take (length new) (over new old) ≡ new
unfolding over
over_front new old = take_at new _ (length new) refl

-- one byte more
pub over_next : (bytes old : List ℕ) (i : ℕ) → i < length bytes → length bytes ≤ length old → set (over (take i bytes) old) i (get_or bytes i 0) ≡ over (take (i + 1) bytes) old
unfolding over
over_next bytes old i h l =
    let n : length (take i bytes) ≡ i = length-take-le i bytes (omega arith) in
    let m : length (take (i + 1) bytes) ≡ i + 1 = length-take-le (i + 1) bytes (omega arith) in
    rw (n, m, add-one, take-suc bytes i 0 h, drop-cons old i 0 (omega arith), append_assoc) (set_at (take i bytes) (get_or old i 0) (drop (suc i) old) (get_or bytes i 0) i n)

-- the check bytes
pub over_checks : (l ys : List ℕ) (n plain weighted : ℕ) → n + 2 ≤ length l → plain ≡ plain_sum (take n l) % 251 → weighted ≡ weighted_sum 1 (take n l) % 251 → ys ≡ over (plain ∷ weighted ∷ []) (mid_of n (length l - n) l)
    → put_mid n (length l - n) l ys ≡ over (take n l ++ check_bytes (take n l)) l
unfolding over check_bytes
over_checks l ys n plain weighted h p w e =
    let m : length (take n l) ≡ n = length-take-le n l (omega arith) in
    let kept : l ≡ over (take n l) l = rw m (sym (take-append-drop n l)) in
    over_lent (take n l) (check_bytes (take n l)) l l ys n kept m (omega arith) (rw (← p, ← w) e)
