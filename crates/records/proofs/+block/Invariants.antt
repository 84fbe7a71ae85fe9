use Rattle.model.specs.Verdicts.{Verdict}
use Rattle.records.proofs.Records.{Answers}
use Prim.Native.Nat.{◌-◌, ◌≤◌}
use Rattle.records.proofs.+block.Given as goal

abbrev pub decreases-block : goal.decreases-block
decreases-block l = l.end - l.from

abbrev pub invariant-loop-r : goal.invariant-loop-r
invariant-loop-r l = (l.from ≤ l.r) × (l.r ≤ l.end) × ((v : Verdict) → Answers l.plan l.body l.depth l.around l.r l.end v → Answers l.plan l.body l.depth l.around l.from l.end v)

abbrev pub decreases-loop-r : goal.decreases-loop-r
decreases-loop-r l = l.end - l.r
