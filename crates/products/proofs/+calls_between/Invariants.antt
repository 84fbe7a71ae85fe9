-- `products::calls_between` answers number 26 of the calls of a part of body 0. The invariant: whatever the records left answer is the part's answer.
-- The measure is the number of records.
use Rattle.model.specs.Verdicts.{Verdict}
use Rattle.products.specs.Inner.Counts.{Within}
use Rattle.products.proofs.Rows.{Answers}
use Prim.Native.Nat.{◌-◌, ◌≤◌}
use Rattle.products.proofs.+calls_between.Given as goal

abbrev pub decreases-calls_between : goal.decreases-calls_between
decreases-calls_between l = l.end - l.from

abbrev pub invariant-loop-r : goal.invariant-loop-r
invariant-loop-r l = (l.from ≤ l.r) × (l.r ≤ l.end) × Within l.plan 0 l.around l.r l.end × ((v : Verdict) → Answers l.plan l.around l.r l.end v → Answers l.plan l.around l.from l.end v)

abbrev pub decreases-loop-r : goal.decreases-loop-r
decreases-loop-r l = l.end - l.r
