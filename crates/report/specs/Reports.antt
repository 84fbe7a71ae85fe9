-- What planrun reports (document 01, 'Running and viewing').
use Rattle.std.specs.Prelude.{ℕ, ◌≡◌, cond, List, eqb, Result, Ok, Err}
use Rattle.model.specs.declared.Fault.{Fault}
use Rattle.model.specs.declared.End.{End}
use Rattle.model.specs.declared.Tally.{Tally}
use Rattle.model.specs.Verdicts.{Accepted, values_of}
use Rattle.model.specs.Sides.{cell_count}
use Rattle.reading.specs.Bytes.{layout_of}
use Rattle.format.specs.Opening.{opening}
use Rattle.run.specs.Running.{Lent, Roomy, Runs, verdict_of}
use Rattle.report.specs.declared.Ending.{Ending}
use Rattle.report.specs.declared.Ending.TheVariants as ending
use Rattle.report.specs.declared.Report.{Report}

-- "done", with its figures, "21 stopped", "22 choices spent", or one of the numbers before the run
abbrev pub ending_of : Result End Fault → Ending
ending_of (Ok end) = ending.Done end
ending_of (Err (Fault.Stopped r c)) = ending.Stopped
ending_of (Err (Fault.Refused number place)) = cond (eqb number 22) ending.Spent ending.Refused

-- a tally of nothing
abbrev pub nothing : Tally
nothing = record { reads = 0; writes = 0; moved = 0 }

-- of a plan file f and choices, with the program's memories before and after
pub record ReportOf (f choices : List ℕ) (before after : Lent) (r : Report) : Type 0 where
  pub answer : Result End Fault
  -- "memories and tally hold the state"
  pub runs : Runs f choices before after answer
  -- number 19 is never the answer: no plan has more cells than the memories
  pub roomy : opening f ≡ Accepted → Roomy (cell_count (layout_of f)) before
  -- "stopped (record and lowest unmet cell)" has the number 21
  pub values : r.values ≡ values_of 21 (verdict_of answer)
  pub ending : r.ending ≡ ending_of answer
