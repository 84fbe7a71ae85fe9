use mathlib.Core.Path.{refl, sym, ◌∙◌}
use native.Mathlib.Omega.{arith}
use Rattle.model.proofs.Rows.{each_none, each_more, each_stop}
use Rattle.model.proofs.Verdicts.{faulty}
use Rattle.passes.proofs.Records.{declared_low, records_low, records_inside}
use Rattle.permits.proofs.ByArray.{none_declared, array_fits, twice, once, stored}
use Rattle.permits.proofs.declarations.Goals as goal

pub loop-i-init : goal.loop-i-init
loop-i-init c = (each_none _, none_declared _ _ _ refl)

pub overflow_add-r : goal.overflow_add-r
overflow_add-r c = let p = c.requires in omega (arith, records_low _ _ p, declared_low _ _ p)

pub record_at-x-requires : goal.record_at-x-requires
record_at-x-requires c = let p = c.requires in let w = records_inside _ _ p in (w.place, omega (arith, declared_low _ _ p))

pub bounds-declared-a : goal.bounds-declared-a
bounds-declared-a c = array_fits _ _ c.requires _ c.loop-i-test.true _ c.record_at-x.ensures

pub overflow_cast-result : goal.overflow_cast-result
overflow_cast-result c = let p = c.requires in omega (arith, records_low _ _ p, declared_low _ _ p)

pub bounds-declared-a-in-loop-i : goal.bounds-declared-a-in-loop-i
bounds-declared-a-in-loop-i c = array_fits _ _ c.requires _ c.loop-i-test.true _ c.record_at-x.ensures

pub returns-then-is_some-clause-refused : goal.returns-then-is_some-clause-refused
returns-then-is_some-clause-refused c =
    let l = c.loop-i in
    let p = c.requires in
    let h = c.loop-i-test.true in
    each_stop _ _ _ _ (faulty refl) l.invariant.0 (twice _ _ p _ h _ c.record_at-x.ensures _ l.invariant.1 (sym c.is_some.ensures ∙ c.if-is_some.true)) (rw (← p.declarations_are) h)

pub loop-i-preserved : goal.loop-i-preserved
loop-i-preserved c =
    let l = c.loop-i in
    let p = c.requires in
    let h = c.loop-i-test.true in
    let x = c.record_at-x.ensures in
    (each_more _ _ l.invariant.0 (once _ _ p _ h _ x _ l.invariant.1 (sym c.is_some.ensures ∙ c.if-is_some.false)), stored _ _ p _ h _ x _ l.invariant.1)
