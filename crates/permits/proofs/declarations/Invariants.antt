-- `permits::declarations` answers number 12, or finds the declarations by array. The invariant: no declaration before the i-th stops, and `declared` is what
-- those before it say of each array.
use mathlib.Core.Path.{◌≡◌}
use Rattle.model.specs.Verdicts.{Accepted}
use Rattle.model.specs.Rows.{answer_of, all_rows}
use Rattle.permits.specs.Permits.{permit_rows}
use Rattle.permits.specs.Inner.Uses.{Says}
use Rattle.permits.proofs.declarations.Given as goal

abbrev pub invariant-loop-i : goal.invariant-loop-i
invariant-loop-i l =
    (Accepted ≡ answer_of (all_rows l.i (permit_rows l.plan l.e.body)))
    × Says l.plan l.e.from l.i l.declared
