use mathlib.Core.Path.{◌≡◌}
use Rattle.model.specs.Verdicts.{Accepted}
use Rattle.model.specs.Rows.{answer_of, all_rows}
use Rattle.records.specs.Records.{body_rows}
use Rattle.records.proofs.all_records.Given as goal

abbrev pub invariant-loop-b : goal.invariant-loop-b
invariant-loop-b l = Accepted ≡ answer_of (all_rows l.b (body_rows l.plan))
