use mathlib.Core.Path.{ap, ◌∙◌}
use native.Mathlib.Omega.{arith}
use Rattle.model.specs.Inner.Statuses.{at_start}
use Rattle.statuses.specs.Inner.Sets.{index}
use Rattle.steps.proofs.First.{entry_in}
use Rattle.tracked.proofs.First.{begun_none, next_low, begun_next, begun_all}
use Rattle.tracked.proofs.write_statuses.Goals as goal

pub loop-a-init : goal.loop-a-init
loop-a-init c = begun_none _ _ _

pub length_at-requires : goal.length_at-requires
length_at-requires c = entry_in _ _ _ c.requires.0 c.loop-a-test.true

pub overflow_add-next : goal.overflow_add-next
overflow_add-next c = let p = c.requires in omega (arith, c.length_at.ensures, next_low p.0 c.loop-a.invariant c.loop-a-test.true, p.1)

pub scratch_at-requires : goal.scratch_at-requires
scratch_at-requires c = entry_in _ _ _ c.requires.0 c.loop-a-test.true

pub overflow_cast-status : goal.overflow_cast-status
overflow_cast-status c = omega (arith, c.start_of-status.ensures)

pub put-requires : goal.put-requires
put-requires c =
    let p = c.requires in
    let b = c.loop-a.invariant in
    record { order = omega arith; inside = omega (arith, c.length_at.ensures, next_low p.0 b c.loop-a-test.true, b.set.size, p.1) }

pub loop-a-smaller : goal.loop-a-smaller
loop-a-smaller c = omega (arith, c.loop-a-test.true)

pub loop-a-preserved : goal.loop-a-preserved
loop-a-preserved c =
    let n = c.length_at.ensures in
    let status = c.start_of-status.ensures.1 ∙ ap (λ b. index (at_start b)) c.scratch_at.ensures in
    rw n (begun_next c.requires.0 c.loop-a.invariant c.loop-a-test.true status (rw n at c.put.ensures))

pub returns : goal.returns
returns c = begun_all c.requires.0 c.loop-a.invariant c.loop-a-test.false c.requires.1
