use mathlib.Core.Path.{◌≡◌, refl, ap, ◌∙◌}
use Prim.Native.Nat.{◌<◌}
use native.Mathlib.Omega.{arith}
use Rattle.model.specs.Rows.{answer_of}
use Rattle.model.proofs.Rows.{each_more, each_stop}
use Rattle.model.proofs.Verdicts.{faulty, handed}
use Rattle.passes.proofs.Records.{declared_low, records_low, records_inside}
use Rattle.permits.proofs.ByArray.{array_low, uses_are}
use Rattle.permits.proofs.uses.Goals as goal

pub loop-i-init : goal.loop-i-init
loop-i-init c = c.requires.1.once

pub overflow_add-r : goal.overflow_add-r
overflow_add-r c = omega (arith, records_low _ _ c.requires.0)

pub record_at-x-requires : goal.record_at-x-requires
record_at-x-requires c = let w = records_inside _ _ c.requires.0 in (w.place, omega arith)

pub bounds-declared-x : goal.bounds-declared-x
bounds-declared-x c =
    let below : c.record_at-x.result.array < 32 = array_low _ _ c.requires.0 _ (omega arith) c.loop-i-test.true _ c.record_at-x.ensures _ c.requires.1 in
    omega (arith, below)

pub use_tests-requires : goal.use_tests-requires
use_tests-requires c = omega (arith, records_low _ _ c.requires.0)

pub returns-in_err-use_tests : goal.returns-in_err-use_tests
returns-in_err-use_tests c =
    let rows = c.in_err-use_tests.ensures ∙ ap answer_of (uses_are _ _ c.requires.0 _ (omega arith) c.loop-i-test.true _ c.record_at-x.ensures _ c.requires.1) in
    handed c.from_residual.ensures.1 ∙ each_stop _ _ _ _ (faulty refl) c.loop-i.invariant rows (rw (← c.requires.0.records_are) c.loop-i-test.true)

pub loop-i-preserved : goal.loop-i-preserved
loop-i-preserved c = each_more _ _ c.loop-i.invariant (c.in_ok-use_tests.ensures ∙ ap answer_of (uses_are _ _ c.requires.0 _ (omega arith) c.loop-i-test.true _ c.record_at-x.ensures _ c.requires.1))

pub returns : goal.returns
returns c =
    let n : c.loop-i.i ≡ c.args.e.records = omega (arith, declared_low _ _ c.requires.0) in
    rw (n, c.requires.0.records_are) at c.loop-i.invariant
