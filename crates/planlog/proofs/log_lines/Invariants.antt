-- part after part: while the log goes on, the entries read have led on, and there are at most so many of them
use Rattle.std.proofs.Common.{◌*◌, ◌≤◌}
use Rattle.std.specs.Prelude.{IfSome}
use Rattle.logs.specs.Inner.Following.{Underway}
use Rattle.planlog.proofs.log_lines.Given as goal

abbrev pub invariant-loop-k : goal.invariant-loop-k
invariant-loop-k g l = IfSome l.stage (λ s. Underway l.plan l.fn.o.offset s × (s.read ≤ 8192 * l._k))
