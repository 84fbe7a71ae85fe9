-- A record's figure is put, and the counts behind it give those that follow; the last figure is what passes.
use Rattle.std.proofs.Common.{arith}
use Rattle.sheet.proofs.Filling.{power_fits, filled_first, passed_fits, filled_next, filled_last}
use Rattle.sheet.proofs.put_sheet.Goals as goal

pub loop-r-init : goal.loop-r-init
loop-r-init c = filled_first _ _ _ c.requires.0 c.requires.1 c.pow-rest.ensures

pub pow-rest-requires : goal.pow-rest-requires
pow-rest-requires c = omega (arith, power_fits c.args.n (omega arith))

pub overflow_mul-figures : goal.overflow_mul-figures
overflow_mul-figures c = omega (arith, passed_fits _ _ _ _ _ _ _ c.loop-r.invariant c.loop-r-test.true)

pub with_operation-passed-requires : goal.with_operation-passed-requires
with_operation-passed-requires c = passed_fits _ _ _ _ _ _ _ c.loop-r.invariant c.loop-r-test.true

pub loop-r-preserved : goal.loop-r-preserved
loop-r-preserved c =
    rw (c.with_operation-passed.ensures.0, c.with_operation-passed.ensures.1)
    (filled_next _ _ _ _ _ _ _ c.loop-r.invariant c.loop-r-test.true)

pub returns : goal.returns
returns c = filled_last _ _ _ _ _ _ _ c.loop-r.invariant c.loop-r-test.false
