-- The answers of the exported functions, packed into one number each (`packing`).
use Rattle.std.specs.Prelude.{ℕ, List, ◌≡◌, Result}
use Rattle.model.specs.declared.Fault.{Fault}
use Rattle.model.specs.declared.End.{End}
use Rattle.model.specs.Verdicts.{Verdict}
use Rattle.format.specs.Opening.{opened, kind_of_opened}
use Rattle.checker.specs.Checking.{Checks}
use Rattle.run.specs.Running.{Lent, Runs, verdict_of}
use Rattle.logs.specs.declared.Logged.{Logged}
use Rattle.logs.specs.Logged.{Answers}
use Rattle.packing.specs.Packed.{packed_answer, figures_of}

-- an answer about the file f, with its kind; a stop has the number `stop`
unfoldable pub packed_for : List ℕ → ℕ → Verdict → ℕ
packed_for f stop v = packed_answer (kind_of_opened (opened f)) stop v

-- the answer r of `plan_check`: an answer of the check, a stop with the number 18
pub record PackedCheck (f : List ℕ) (r : ℕ) : Type 0 where
  pub answer : Verdict
  pub checks : Checks f answer
  pub packs : r ≡ packed_for f 18 answer

-- the answer r of `plan_run`: a run's, a stop with the number 21
pub record PackedRun (f choices : List ℕ) (before after : Lent) (figures_before figures_after : List ℕ) (r : ℕ) : Type 0 where
  pub answer : Result End Fault
  pub runs : Runs f choices before after answer
  pub figures : figures_after ≡ figures_of answer figures_before
  pub packs : r ≡ packed_for f 21 (verdict_of answer)

-- the answer r of `plan_log`: that to the log
pub record PackedLog (f log : List ℕ) (r : ℕ) : Type 0 where
  pub answer : Logged
  pub answers : Answers f log answer
  pub packs : r ≡ packed_for f 0 answer.verdict

-- the answer r of `plan_log_entry`: the entry that the answer to the log names
pub record EntryOf (f log : List ℕ) (r : ℕ) : Type 0 where
  pub answer : Logged
  pub answers : Answers f log answer
  pub entry : r ≡ answer.entry
