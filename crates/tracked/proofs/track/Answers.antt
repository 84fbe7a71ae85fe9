use Rattle.format.specs.Plans.{action_of}
use Rattle.tracked.proofs.Tracking.{tracks}
use Rattle.tracked.proofs.track.Goals as goal

pub returns : goal.returns
unfolding action_of
returns c = λ layout σ w p s.
    let first = c.first_cell-from in
    let next = c.next_cell-to in
    let step = c.step_of-step in
    tracks layout (action_of c.args.x) step.result first.result next.result (rw (first.ensures, next.ensures, step.ensures.step) w) σ _ c.masks_of-m.ensures _ s p _ _ c.touch_by.ensures
