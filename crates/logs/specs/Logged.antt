-- The answer to a plan file and a log of any bytes (document 02, request i).
use Rattle.std.specs.Prelude.{ℕ, ◌*◌, ◌/◌, ◌%◌, ◌≡◌, Bool, cond, not, List, [], ◌∷◌, ◌++◌, eqb, length}
use Rattle.model.specs.Verdicts.{Verdict, Accepted, Refused, accepted}
use Rattle.model.specs.Rows.{Row, row, answer_of}
use Rattle.reading.specs.Bytes.{u16_at, is_plain, table}
use Rattle.format.specs.Opening.{open_rows}
use Rattle.format.specs.Plans.{plan_of}
use Rattle.logs.specs.declared.Logged.{Logged}
use Rattle.logs.specs.Logs.{Finding, off, stuck, Finds}

-- "as a two-byte record number, low byte first": entry i of a log
abbrev pub entry_of : List ℕ → ℕ → ℕ
entry_of log i = u16_at log (2 * i)

-- its entries
unfoldable pub entries_of : List ℕ → List ℕ
entries_of log = table (entry_of log) (length log / 2)

-- the numbers of opening, then "11 .. without kind 2", then "29: odd length": "29 first, all after 11"
unfoldable pub log_rows : List ℕ → Bool → List Row
log_rows f odd = open_rows f ++ (row (not (is_plain f)) 11 0 ∷ row odd 29 0 ∷ [])

-- an answer that names no entry
abbrev pub unplaced : Verdict → Logged
unplaced v = record { verdict = v; entry = 0 }

-- what is answered: "30 and 31 place the entry, from 0"
abbrev pub answer_to : Finding → Logged
answer_to Finding.accepted = unplaced Accepted
answer_to (off i) = record { verdict = Refused 30 0; entry = i }
answer_to (stuck i) = record { verdict = Refused 31 0; entry = i }

-- the answer says what is found of these entries
pub record Says (f entries : List ℕ) (answer : Logged) : Type 0 where
  pub finding : Finding
  pub finds : Finds (plan_of f) entries finding
  pub says : answer ≡ answer_to finding

-- the promise: a refusal by these rows, or else what is found of the log held against the plan
unfoldable pub Answers : List ℕ → List ℕ → Logged → Type 0
Answers f log answer =
    let refusal = answer_of (log_rows f (eqb (length log % 2) 1)) in
    cond (accepted refusal) (Says f (entries_of log) answer) (answer ≡ unplaced refusal)
