use mathlib.Core.Path.{◌≡◌, sym}
use native.Mathlib.Omega.{arith}
use Rattle.files.specs.Inner.Given.{declared_from}
use Rattle.files.proofs.Blocks.{same_size}
use Rattle.files.proofs.Given.{given_low, declared_none, declared_step, declared_low}
use Rattle.sizes.proofs.declared_size.Goals as goal

pub loop-i-init : goal.loop-i-init
loop-i-init c = sym (same_size (declared_from _ _ 0) _ (declared_none _ _))

pub overflow_add-n : goal.overflow_add-n
overflow_add-n c = record { fits = omega (arith, declared_low c.args.plan.now c.args.from c.loop-i.i, given_low c.record_at.result) }

pub loop-i-preserved : goal.loop-i-preserved
loop-i-preserved c =
    declared_step _ _ _ _ _ _ c.loop-i.invariant c.record_at.ensures c.given_size-n.ensures

pub returns : goal.returns
returns c =
    let l = c.loop-i in
    let e : l.i ≡ c.args.count = omega arith in
    rw e at l.invariant
