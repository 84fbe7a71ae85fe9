use native.Mathlib.Omega.{arith}
use Rattle.classes.proofs.Marking.{behind_none, behind_next, behind_all}
use Rattle.classes.proofs.mark_steps.Goals as goal

pub loop-c-init : goal.loop-c-init
loop-c-init c = behind_none _ _ _ _ c.requires.0

pub loop-c-preserved : goal.loop-c-preserved
loop-c-preserved c = let p = c.requires in behind_next _ _ _ _ _ _ c.loop-c.invariant p.2 c.loop-c-test.true p.1

pub returns : goal.returns
returns c = behind_all _ _ _ _ _ _ c.loop-c.invariant c.loop-c-test.false

pub returns-2 : goal.returns-2
returns-2 c = let p = c.requires in behind_all _ _ _ _ _ _ (behind_next _ _ _ _ _ _ c.loop-c.invariant p.2 c.loop-c-test.true p.1) (omega arith)
