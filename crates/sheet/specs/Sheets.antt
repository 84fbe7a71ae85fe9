-- Exercise sheets (document 02, request n): short sequences over one cell, and how many of them stop at each place.
use Rattle.std.specs.Prelude.{ℕ, zero, suc, Bool, true, false, cond, length, drop, eqb, ltb}
use mathlib.Core.List.{List, [], ◌∷◌, ◌++◌, map, flat_map}
use Rattle.std.proofs.Math.Option.{Option, none, some}
use Rattle.model.specs.Verdicts.{Verdict, accepted}
use Rattle.model.specs.Rows.{row, answer_of}
use Rattle.model.specs.Sides.{host, card}
use Rattle.model.specs.Records.{read, write, copy, Action}
use Rattle.model.specs.Blocks.{Block, done, act, Plan}
use Rattle.model.specs.Runs.{Config, Ending, finished, stopped, out_of_choices, Step, next, ends, proper, step, begin}
use Rattle.model.specs.Cases.{single, ◌on◌}

-- "The six operations are read, write and copy, each on either side."
abbrev pub operations : List Action
operations = read on host ∷ read on card ∷ write on host ∷ write on card ∷ copy on host ∷ copy on card ∷ []

-- "the 6^n sequences": each operation in front of each shorter sequence
unfoldable pub sequences : ℕ → List (List Action)
sequences zero = [] ∷ []
sequences (suc n) = flat_map (λ x. map (λ l. x ∷ l) (sequences n)) operations

-- a sequence as records, numbered from r on
abbrev pub records : ℕ → List Action → Block Action
records r [] = done
records r (x ∷ l) = act r x (records (suc r) l)

-- the plan of a sequence, "over one cell"
abbrev pub sequence_plan : List Action → Plan
sequence_plan l = record { layout = single 1; body = records 0 l }

-- a step leads on, or the run has ended
abbrev pub after_step : (Config → Option Ending) → Step → Option Ending
after_step more (next k) = more k
after_step more (ends e) = some e

-- how a run ends, by the definition's own step, if it does so in n steps
unfoldable pub ending_in : ℕ → Config → Option Ending
ending_in zero k = none
ending_in (suc n) k = after_step (ending_in n) (step proper (single 1) k)

-- how the run of a sequence "from the usual start" ends: it makes no choice, and takes a step for each record and one for the end
abbrev pub ending_of : List Action → Option Ending
ending_of l = ending_in (suc (length l)) (begin (sequence_plan l) [])

-- whether a run has stopped at place p: places count from 1, records from 0
abbrev pub stops_at : ℕ → Option Ending → Bool
stops_at p none = false
stops_at p (some finished) = false
stops_at p (some (stopped r c)) = eqb (suc r) p
stops_at p (some (out_of_choices r)) = false

-- whether it has passed
abbrev pub passes : Option Ending → Bool
passes none = false
passes (some finished) = true
passes (some (stopped r c)) = false
passes (some (out_of_choices r)) = false

-- how many of a list pass a test
abbrev pub count : {A : Type 0} → (A → Bool) → List A → ℕ
count f [] = 0
count f (x ∷ l) = cond (f x) (suc (count f l)) (count f l)

-- n places, from place p on
abbrev pub places : ℕ → ℕ → List ℕ
places p zero = []
places p (suc n) = p ∷ places (suc p) n

-- "how many of the 6^n sequences .. stop at place 1, and so on to n, and last how many pass"
unfoldable pub figures : ℕ → List ℕ
figures n =
    map (λ p. count (λ l. stops_at p (ending_of l)) (sequences n)) (places 1 n)
    ++ (count (λ l. passes (ending_of l)) (sequences n) ∷ [])

-- "38: n above 24"
unfoldable pub sheet_answer : ℕ → Verdict
sheet_answer n = answer_of (row (ltb 24 n) 38 0 ∷ [])

-- the lent figures afterwards: the sheet's first, the others as they were; at a refusal all as they were
unfoldable pub sheet_figures : ℕ → List ℕ → List ℕ
sheet_figures n before = cond (accepted (sheet_answer n)) (figures n ++ drop (suc n) before) before
