use native.Mathlib.Omega.{arith}
use Rattle.format.proofs.Acts.{record_inside}
use Rattle.lookahead.proofs.PlainPlan.record.Goals as goal

pub record_at-requires : goal.record_at-requires
record_at-requires c = let p = c.requires in (p.0.place, omega (arith, record_inside _ _ p.0 _ p.1))
