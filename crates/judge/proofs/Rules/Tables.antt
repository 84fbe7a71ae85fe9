-- A place of many entries is passed exactly if each entry is; a property holds of a table exactly if it holds of each entry.
use mathlib.Core.Path.{◌≡◌}
use mathlib.Core.Logic.{◌↔◌}
use mathlib.Core.List.{List, [], ◌∷◌, ◌++◌}
use Prim.Native.Nat.{ℕ, zero, suc, ◌<◌}
use native.Mathlib.Decide.{dec_lt}
use native.Mathlib.Numerals.{add-one}
use native.Mathlib.Omega.{arith}
use Rattle.model.specs.Verdicts.{Accepted}
use Rattle.model.specs.Lists.{All}
use Rattle.model.specs.Rows.{Row, answer_of, all_rows}
use Rattle.reading.specs.Bytes.{table}
use Rattle.model.proofs.Rows.{each_none, each_more, each_passed}

-- what holds of each number below n, and of n
pub up_to : (P : ℕ → Type 0) (n : ℕ) → ((i : ℕ) → i < n → P i) → P n → (i : ℕ) → i < suc n → P i
up_to P n h p i l = elim (dec_lt i n) [
  | yes m ↦ h i m
  | no m ↦ let z : i ≡ n = omega arith in rw z p
]

pub each_accepts : (rows : ℕ → List Row) (n : ℕ) → (Accepted ≡ answer_of (all_rows n rows)) ↔ ((i : ℕ) → i < n → Accepted ≡ answer_of (rows i))
each_accepts rows n = (λ e i l. each_passed rows n i e l, λ h. go n h)
  where
    go : (n : ℕ) → ((i : ℕ) → i < n → Accepted ≡ answer_of (rows i)) → Accepted ≡ answer_of (all_rows n rows)
    go zero h = each_none rows
    go (suc n) h = rw add-one at (each_more rows n (go n (λ i l. h i (omega arith))) (h n (omega arith)))

module _ {A : Type 0} (P : A → Type 0) where
  all_append : (l : List A) (x : A) → All P (l ++ (x ∷ [])) ↔ (All P l × P x)
  all_append [] x = (λ a. (tt, a.0), λ a. (a.1, tt))
  all_append (y ∷ l) x = (λ a. let b = (all_append l x).0 a.1 in ((a.0, b.0), b.1), λ a. (a.0.0, (all_append l x).1 (a.0.1, a.1)))

  pub all_table : (g : ℕ → A) (n : ℕ) → All P (table g n) ↔ ((i : ℕ) → i < n → P (g i))
  unfolding table
  all_table g zero = (λ a i l. absurd (omega arith), λ h. tt)
  all_table g (suc n) = (
    λ a. let b = (all_append (table g n) (g n)).0 a in up_to (λ i. P (g i)) n ((all_table g n).0 b.0) b.1,
    λ h. (all_append (table g n) (g n)).1 ((all_table g n).1 (λ i l. h i (omega arith)), h n (omega arith)),
  )
