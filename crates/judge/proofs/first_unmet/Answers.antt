use mathlib.Core.Bool.{not}
use mathlib.Core.Path.{ap, ◌≡◌, refl}
use native.Mathlib.Omega.{arith}
use Rattle.model.proofs.Rows.{refused, holds, skips, empty, each_none, each_more, each_stop}
use Rattle.passes.proofs.Records.{declared_low, records_low, records_inside}
use Rattle.judge.proofs.first_unmet.Goals as goal

pub loop-i-init : goal.loop-i-init
loop-i-init c = each_none _

pub overflow_add-r : goal.overflow_add-r
overflow_add-r c = let p = c.requires.0 in omega (arith, records_low _ _ p, declared_low _ _ p)

pub record_at-requires : goal.record_at-requires
record_at-requires c = let p = c.requires.0 in let w = records_inside _ _ p in (w.place, omega (arith, declared_low _ _ p))

pub met-requires : goal.met-requires
met-requires c = rw c.record_at.ensures (c.requires.1.fit _ c.loop-i-test.true)

pub overflow_cast-result : goal.overflow_cast-result
overflow_cast-result c = let p = c.requires.0 in omega (arith, records_low _ _ p, declared_low _ _ p)

pub returns-then-not-met : goal.returns-then-not-met
returns-then-not-met c =
    let h = c.loop-i-test.true in
    each_stop _ _ _ _ (refused refl) c.loop-i.invariant (rw (c.requires.1.rows _ h) (holds _ _ _ _ (rw (c.met.ensures, c.record_at.ensures) at (ap not c.if-not-met.true)))) (rw (← c.requires.0.declarations_are) h)

pub loop-i-preserved : goal.loop-i-preserved
loop-i-preserved c = each_more _ _ c.loop-i.invariant (rw (c.requires.1.rows _ c.loop-i-test.true) (skips _ _ _ _ _ (rw (c.met.ensures, c.record_at.ensures) at (ap not c.if-not-met.false)) empty))

pub returns : goal.returns
returns c =
    let n : c.loop-i.i ≡ c.args.e.declarations = omega arith in
    rw (n, c.requires.0.declarations_are) at c.loop-i.invariant
