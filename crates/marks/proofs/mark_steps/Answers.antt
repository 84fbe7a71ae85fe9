use native.Mathlib.Omega.{arith}
use lib.ListN.{length-set}
use Rattle.marks.proofs.Marks.{steps_none, steps_next}
use Rattle.marks.proofs.mark_steps.Goals as goal

pub loop-c-preserved : goal.loop-c-preserved
loop-c-preserved c =
    let p = c.requires in
    let at = c.loop-c in
    let i = at.invariant in
    (simp length-set i.0, λ l m. i.1 l (steps_next _ _ at.c at.set i.0 p.2 c.loop-c-test.true p.1 l m))

pub returns-2 : goal.returns-2
returns-2 c =
    let p = c.requires in
    let at = c.loop-c in
    let i = at.invariant in
    i.1 _ (steps_next _ _ at.c at.set i.0 p.2 c.loop-c-test.true p.1 _ (steps_none _ _ _ _ (simp length-set i.0) (omega arith)))
