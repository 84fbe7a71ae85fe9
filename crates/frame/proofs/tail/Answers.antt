-- The length first, then the check bytes.
use Rattle.std.proofs.Common.{ap}
use mathlib.Core.Bool.{not}
use Rattle.frame.proofs.Frame.{length_stop, check_stop, tail_pass}
use Rattle.frame.proofs.tail.Goals as goal

pub returns-then-plan-offset : goal.returns-then-plan-offset
returns-then-plan-offset c = length_stop _ _ _ c.requires.0 c.requires.2 c.if-plan-offset.true

pub returns-then-not-plain-s : goal.returns-then-not-plain-s
returns-then-not-plain-s c = check_stop _ _ _ c.requires.0 c.requires.2 c.if-plan-offset.false _ _ _ _ c.byte-plain.ensures c.byte-weighted.ensures c.check_sums-s.ensures.plain c.check_sums-s.ensures.weighted (ap not c.if-not-plain-s.true)

pub returns : goal.returns
returns c = tail_pass _ _ _ c.requires.0 c.requires.2 c.if-plan-offset.false _ _ _ _ c.byte-plain.ensures c.byte-weighted.ensures c.check_sums-s.ensures.plain c.check_sums-s.ensures.weighted (ap not c.if-not-plain-s.false)
