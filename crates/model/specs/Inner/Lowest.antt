-- No promise of an entry point rests on this text: the check, one cell at a time.
use Rattle.std.specs.Prelude.{ℕ, ◌≤◌, ◌<◌, ◌≡◌, cond, ltb, Ok, Err}
use Rattle.std.proofs.Math.Option.{Option, none, some}
use Rattle.model.specs.Verdicts.{Verdict, Stopped, Refused, stopped_at}
use Rattle.model.specs.declared.Fault.{Fault}

-- m is at most r, if there is such an m
abbrev pub AtMost : Option ℕ → ℕ → Type 0
AtMost none r = ⊥
AtMost (some m) r = m ≤ r

-- the lowest record with property P, or none if there is none
pub record Least (o : Option ℕ) (P : ℕ → Type 0) : Type 0 where
  pub named : (m : ℕ) → o ≡ some m → P m
  pub least : (r : ℕ) → P r → AtMost o r

-- the answer for the cells below c, and then for cell c too, which can stop at the record given: the lower record, and of the same record
-- the lower cell
abbrev pub with_cell : Verdict → ℕ → Option ℕ → Verdict
with_cell v c none = v
with_cell (Ok _) c (some r) = stopped_at r c
with_cell (Err (Fault.Stopped r' c')) c (some r) = cond (ltb r r'.0) (stopped_at r c) (Stopped r' c')
with_cell (Err (Fault.Refused number place)) c (some r) = Refused number place

-- an answer fits the cells below n, where `P r c` says that cell c can stop at record r
abbrev pub Fits : ℕ → (ℕ → ℕ → Type 0) → Verdict → Type 0
Fits n P (Ok _) = (r c : ℕ) → c < n → P r c → ⊥
Fits n P (Err (Fault.Stopped r c)) =
    ((c.0 < n) × P r.0 c.0)
    × ((r' c' : ℕ) → c' < n → P r' c' → r.0 ≤ r')
    × ((c' : ℕ) → c' < n → P r.0 c' → c.0 ≤ c')
Fits n P (Err (Fault.Refused number place)) = ⊥
