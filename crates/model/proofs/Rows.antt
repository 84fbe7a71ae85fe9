-- The first row that holds: of a row and the rows after it, of two lists of rows, of the rows of many entries.
use mathlib.Core.Path.{◌≡◌, refl}
use mathlib.Core.Bool.{Bool, true, false}
use mathlib.Core.List.{List, [], ◌∷◌, ◌++◌}
use Prim.Native.Nat.{ℕ, zero, suc, ◌+◌, ◌<◌}
use native.Mathlib.Decide.{dec_lt}
use native.Mathlib.Numerals.{add-one}
use native.Mathlib.Omega.{arith}
use Rattle.model.specs.Verdicts.{Verdict, Accepted, Stopped, Refused, accepted}
use Rattle.model.specs.declared.Fault.{Fault}
use Rattle.std.specs.Prelude.{Ok, Err}
use Rattle.model.specs.declared.Record.{Record}
use Rattle.model.specs.declared.Cell.{Cell}
use Rattle.model.specs.Rows.{Row, row, answer_of, all_rows}

pub refused : {n p : ℕ} {v : Verdict} → v ≡ Refused n p → v ≡ Accepted → ⊥
refused e h = let z : ◌≡◌ {A = ℕ} 0 1 = cc in omega arith

-- no row stops
pub never_stops : (rows : List Row) (r : Record) (c : Cell) → Stopped r c ≡ answer_of rows → ⊥
unfolding answer_of
never_stops [] r c e = let z : ◌≡◌ {A = ℕ} 0 1 = cc in omega arith
never_stops (row true n p ∷ rows) r c e = let z : ◌≡◌ {A = ℕ} 0 1 = cc in omega arith
never_stops (row false n p ∷ rows) r c e = never_stops rows r c e

-- every other answer is not accepted
pub unaccepted : (v : Verdict) → (v ≡ Accepted → ⊥) → accepted v ≡ false
unaccepted (Ok _) nay = absurd (nay refl)
unaccepted (Err (Fault.Stopped r c)) nay = refl
unaccepted (Err (Fault.Refused number place)) nay = refl

-- a row that holds is the answer; one that does not hold leaves the answer to the others
pub holds : (c : Bool) (n p : ℕ) (rows : List Row) → c ≡ true → Refused n p ≡ answer_of (row c n p ∷ rows)
unfolding answer_of
holds c n p rows e = rw e

-- and where the answer is its number, it does
pub held : (c : Bool) (n p : ℕ) → answer_of (row c n p ∷ []) ≡ Refused n p → c ≡ true
unfolding answer_of
held true n p e = refl
held false n p e = let z : ◌≡◌ {A = ℕ} 0 1 = cc in absurd (omega arith)

pub skips : (c : Bool) (n p : ℕ) (rows : List Row) (v : Verdict) → c ≡ false → v ≡ answer_of rows → v ≡ answer_of (row c n p ∷ rows)
unfolding answer_of
skips c n p rows v e h = rw e h

pub skipped : (c : Bool) (n p : ℕ) (rows : List Row) → Accepted ≡ answer_of (row c n p ∷ rows) → (c ≡ false) × (Accepted ≡ answer_of rows)
unfolding answer_of
skipped true n p rows e = absurd (refused e refl)
skipped false n p rows e = (refl, e)

pub empty : Accepted ≡ answer_of []
unfolding answer_of
empty = refl

-- the answer of two lists: the first's, or where it has none the second's
pub stop : (a b : List Row) (v : Verdict) → (v ≡ Accepted → ⊥) → v ≡ answer_of a → v ≡ answer_of (a ++ b)
unfolding answer_of
stop [] b v nay e = absurd (nay e)
stop (row true n p ∷ a) b v nay e = e
stop (row false n p ∷ a) b v nay e = stop a b v nay e

pub pass : (a b : List Row) (v : Verdict) → Accepted ≡ answer_of a → v ≡ answer_of b → v ≡ answer_of (a ++ b)
unfolding answer_of
pass [] b v e h = h
pass (row true n p ∷ a) b v e h = absurd (refused e refl)
pass (row false n p ∷ a) b v e h = pass a b v e h

pub passed : (a b : List Row) → Accepted ≡ answer_of (a ++ b) → (Accepted ≡ answer_of a) × (Accepted ≡ answer_of b)
unfolding answer_of
passed [] b e = (refl, e)
passed (row true n p ∷ a) b e = absurd (refused e refl)
passed (row false n p ∷ a) b e = passed a b e

-- a row whose condition does not hold where no earlier one does decides nothing
pub unheld : (a b : List Row) (c : Bool) (n p : ℕ) → (Accepted ≡ answer_of a → c ≡ false) → answer_of (a ++ (row c n p ∷ b)) ≡ answer_of (a ++ b)
unfolding answer_of
unheld [] b c n p h = rw (h refl)
unheld (row true m q ∷ a) b c n p h = refl
unheld (row false m q ∷ a) b c n p h = unheld a b c n p h

-- entry by entry
module _ (rows : ℕ → List Row) where
  pub each_none : Accepted ≡ answer_of (all_rows 0 rows)
  unfolding answer_of all_rows
  each_none = refl

  pub each_more : (i : ℕ) → Accepted ≡ answer_of (all_rows i rows) → Accepted ≡ answer_of (rows i) → Accepted ≡ answer_of (all_rows (i + 1) rows)
  unfolding all_rows
  each_more i e h = rw add-one (pass (all_rows i rows) (rows i) Accepted e h)

  pub each_stop : (i n : ℕ) (v : Verdict) → (v ≡ Accepted → ⊥) → Accepted ≡ answer_of (all_rows i rows) → v ≡ answer_of (rows i) → i < n → v ≡ answer_of (all_rows n rows)
  unfolding all_rows
  each_stop i zero v nay e h l = absurd (omega arith)
  each_stop i (suc n) v nay e h l = elim (dec_lt i n) [
    | yes m ↦ stop (all_rows n rows) (rows n) v nay (each_stop i n v nay e h m)
    | no m ↦ let q : i ≡ n = omega arith in pass (all_rows n rows) (rows n) v (rw q at e) (rw q at h)
  ]

  pub each_passed : (n i : ℕ) → Accepted ≡ answer_of (all_rows n rows) → i < n → Accepted ≡ answer_of (rows i)
  unfolding all_rows
  each_passed zero i e l = absurd (omega arith)
  each_passed (suc n) i e l = elim (dec_lt i n) [
    | yes m ↦ each_passed n i (passed (all_rows n rows) (rows n) e).0 m
    | no m ↦ let q : i ≡ n = omega arith in rw q (passed (all_rows n rows) (rows n) e).1
  ]
