-- `judge::all_passes` answers 12 to 15 pass by pass. The invariant: no pass before the b-th stops.
use mathlib.Core.Path.{◌≡◌}
use Prim.Native.Nat.{◌-◌}
use Rattle.model.specs.Verdicts.{Accepted}
use Rattle.model.specs.Rows.{answer_of}
use Rattle.judge.proofs.Laws.Passes.{passes_rows}
use Rattle.judge.proofs.all_passes.Given as goal

abbrev pub invariant-loop-b : goal.invariant-loop-b
invariant-loop-b l = Accepted ≡ answer_of (passes_rows l.plan (l.b - 1))
