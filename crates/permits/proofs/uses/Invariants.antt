-- `permits::uses` answers numbers 13 and 14 of the records after the declarations. The invariant: no record before the i-th stops.
use mathlib.Core.Path.{◌≡◌}
use Rattle.model.specs.Verdicts.{Accepted}
use Rattle.model.specs.Rows.{answer_of, all_rows}
use Rattle.permits.specs.Permits.{permit_rows}
use Rattle.permits.proofs.uses.Given as goal

abbrev pub invariant-loop-i : goal.invariant-loop-i
invariant-loop-i l = Accepted ≡ answer_of (all_rows l.i (permit_rows l.plan l.e.body))
