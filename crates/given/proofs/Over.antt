-- What is written at the front of a lent part leaves of the whole: bytes over the front of the old ones.
use mathlib.Core.Path.{◌≡◌, refl, ap, ◌∙◌}
use mathlib.Core.List.{List, [], ◌++◌, append_assoc, append-nil}
use Prim.Native.Nat.{ℕ, ◌+◌, ◌-◌, ◌≤◌}
use native.Mathlib.Omega.{arith}
use lib.ListN.{length, take, drop, length-append, length-drop, drop_of_length-le}
use lib.Seq.{take_all, take_at, drop_at, drop-drop}
use borrow.Rule.Slice.PartMut.{mid_of, put_mid, mid_len}
use Rattle.given.specs.Inner.Over.{over}

pub over_none : (old : List ℕ) → old ≡ over [] old
unfolding over
over_none old = refl

pub over_length : (new old : List ℕ) → length new ≤ length old → length (over new old) ≡ length old
unfolding over
over_length new old h = length-append new (drop (length new) old) ∙ omega (arith, length-drop (length new) old)

-- one write and then another behind it
over_more : (new more old : List ℕ) → new ++ over more (drop (length new) old) ≡ over (new ++ more) old
unfolding over
over_more new more old = rw (append_assoc, length-append, drop-drop)

written_front : (new old : List ℕ) (k : ℕ) → length new ≡ k → take k (over new old) ≡ new
unfolding over
written_front new old k n = take_at new _ k n

written_behind : (new old : List ℕ) (k : ℕ) → length new ≡ k → drop k (over new old) ≡ drop k old
unfolding over
written_behind new old k n = drop_at new _ k n ∙ rw n

-- a part from k on, where the bytes before it were written: a callee writes more at its front
pub over_lent : (new more old xs ys : List ℕ) (k : ℕ) → xs ≡ over new old → length new ≡ k → k ≤ length old → ys ≡ over more (mid_of k (length xs - k) xs) → put_mid k (length xs - k) xs ys ≡ over (new ++ more) old
over_lent new more old xs ys k e n h w =
    let l : length xs ≡ length old = ap length e ∙ over_length new old (omega arith) in
    let a : length (drop k xs) ≤ length xs - k = simp length-drop (omega arith) in
    let whole : mid_of k (length xs - k) xs ≡ drop k xs = take_all _ _ a in
    let rest : drop (length xs - k) (drop k xs) ≡ [] = drop_of_length-le _ a in
    let front : take k xs ≡ new = rw e (written_front new old k n) in
    let behind : drop k xs ≡ drop k old = rw e (written_behind new old k n) in
    simp (w, whole, rest, append-nil) (rw (front, behind, ← n) (over_more new more old))

-- such a part has room for what is left of the old bytes
pub lent_room : (new old xs : List ℕ) (k n : ℕ) → xs ≡ over new old → length new ≤ length old → k + n ≤ length old → n ≤ length (mid_of k (length xs - k) xs)
lent_room new old xs k n e h l =
    let m : length xs ≡ length old = ap length e ∙ over_length new old h in
    omega (arith, mid_len k (length xs) xs (omega arith))
