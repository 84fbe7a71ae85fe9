-- `judge::first_unmet` answers number 15 by the set of the cells that every way writes. The invariant: no declaration before the i-th is unmet.
use mathlib.Core.Path.{◌≡◌}
use Rattle.model.specs.Verdicts.{Accepted}
use Rattle.model.specs.Rows.{answer_of, all_rows}
use Rattle.judge.specs.Judged.{w_rows}
use Rattle.judge.proofs.first_unmet.Given as goal

abbrev pub invariant-loop-i : goal.invariant-loop-i
invariant-loop-i l = Accepted ≡ answer_of (all_rows l.i (w_rows l.plan l.e.body))
