use native.Mathlib.Omega.{arith}
use Rattle.tracked.proofs.Tracking.{touching_none, touching_next, touching_all}
use Rattle.tracked.proofs.touch.Goals as goal

pub loop-c-init : goal.loop-c-init
loop-c-init c = touching_none

pub bounds-cells-c : goal.bounds-cells-c
bounds-cells-c c = omega (arith, c.loop-c.invariant.stored.size, c.loop-c-test.true, c.requires.1.inside)

pub bounds-cells-c-in-loop-c : goal.bounds-cells-c-in-loop-c
bounds-cells-c-in-loop-c c = omega (arith, c.loop-c.invariant.stored.size, c.loop-c-test.true, c.requires.1.inside)

pub loop-c-preserved : goal.loop-c-preserved
loop-c-preserved c =
    let p = c.requires in
    touching_next c.loop-c.invariant p.0.0 c.loop-c-test.true p.1.inside c.after.ensures c.stops-stuck.ensures

pub returns : goal.returns
returns c = touching_all c.loop-c.invariant (omega arith)
