use mathlib.Core.List.{[]}
use native.Mathlib.Omega.{arith}
use Rattle.logs.specs.Logged.{entries_of}
use Rattle.logs.proofs.hold.Goals as goal

pub follow-requires : goal.follow-requires
follow-requires c = let b = c.first-stage.ensures.underway in (rw c.from-bodies.ensures b.0, omega (arith, b.1))

pub end-requires : goal.end-requires
end-requires c = let b = c.first-stage.ensures.underway in let w = c.follow.ensures.underway in (w.0, omega (arith, b.1, w.1))

pub returns : goal.returns
returns c = let v = c.args in c.end.ensures (entries_of v.log.now) (c.follow.ensures.led.more [] (rw c.from-bodies.ensures c.first-stage.ensures.led))
