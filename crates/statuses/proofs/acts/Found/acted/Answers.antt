use mathlib.Core.Path.{refl}
use Rattle.statuses.proofs.Moves.{moving_none, moving_all, moving_more}
use Rattle.statuses.proofs.acts.Found.acted.Goals as goal

pub loop-w-init : goal.loop-w-init
loop-w-init c = record { can = tt; ends = tt; moving = rw (c.into_iter-w-iterator.ensures.into_iter_gives, c.members-w-items.ensures) (moving_none _ _ _ _) }

pub loop-w-preserved : goal.loop-w-preserved
loop-w-preserved c =
    let w = c.in-Some.ensures.steps in
    let s = c.leaf-s.ensures in
    record { can = tt; ends = tt; moving = moving_more _ _ _ _ _ _ _ c.loop-w.invariant.moving c.in-Some.w w.0 w.1 _ _ s.step _ _ _ c.only.ensures c.union-set.ensures w.3 }

pub returns : goal.returns
returns c = let l = c.lowered-low.ensures in moving_all _ _ _ _ _ _ _ c.loop-w.invariant.moving c.requires.3 c.in-None.ensures.steps _ refl l.lower l.named l.least
