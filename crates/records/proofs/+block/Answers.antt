use mathlib.Core.Path.{◌≡◌, sym, ap, ◌∙◌}
use mathlib.Core.List.{List}
use native.Mathlib.Omega.{arith}
use Rattle.model.specs.Verdicts.{Accepted}
use Rattle.model.specs.Rows.{answer_of}
use Rattle.model.proofs.Verdicts.{faulty, handed}
use Rattle.rules.specs.Rules.{record_rows}
use Rattle.reading.specs.declared.Fields.{Fields}
use Rattle.reading.specs.Bytes.{fields_at, nests, first_arm, second_arm, turns_of}
use Rattle.records.proofs.Records.{at_end, at_record, Passes, inside, few, at_first, at_second, at_next, at_leaf}
use Prim.Native.Nat.{ℕ, ◌<◌}
use Rattle.std.proofs.Common.{rules}
use Rattle.records.proofs.+block.Goals as goal

-- a record x that passes its tests
passing : {f : List ℕ} {b depth around r end i j q : ℕ} {x : Fields} → r < end → x ≡ fields_at f r → i ≡ first_arm x → j ≡ second_arm x → q ≡ turns_of x → Accepted ≡ answer_of (record_rows f b depth around r end) → Passes f b depth around r end i j q
passing h e i j q t = record { less = h; one = i ∙ ap first_arm e; two = j ∙ ap second_arm e; turns = q ∙ ap turns_of e; accepts = t }

pub returns-in_err-record_tests : goal.returns-in_err-record_tests
returns-in_err-record_tests t c = c.loop-r.invariant.2 _ (at_record _ _ _ _ _ _ c.loop-r-test.true _ (faulty (handed c.from_residual.ensures.1)) (handed c.from_residual.ensures.1 ∙ c.in_err-record_tests.ensures))

pub block-requires : goal.block-requires
block-requires t c =
    let passes = passing c.loop-r-test.true c.record_at-x.ensures c.first_arm.ensures.arm c.second_arm.ensures.arm c.turns_of.ensures.turns c.in_ok-record_tests.ensures in
    let n = inside _ _ _ _ _ _ _ _ _ passes in
    let m = few _ _ _ _ _ _ _ _ _ passes in
    search rules

pub returns-in_err-block : goal.returns-in_err-block
returns-in_err-block t c =
    let passes = passing c.loop-r-test.true c.record_at-x.ensures c.first_arm.ensures.arm c.second_arm.ensures.arm c.turns_of.ensures.turns c.in_ok-record_tests.ensures in
    let e = handed c.from_residual-in_err-block.ensures.1 in
    c.loop-r.invariant.2 _ (at_first _ _ _ _ _ _ _ _ _ passes _ (faulty e) (λ n l. e ∙ c.in_err-block.ensures n l))

pub block-requires-then-nests : goal.block-requires-then-nests
block-requires-then-nests t c =
    let passes = passing c.loop-r-test.true c.record_at-x.ensures c.first_arm.ensures.arm c.second_arm.ensures.arm c.turns_of.ensures.turns c.in_ok-record_tests.ensures in
    let n = inside _ _ _ _ _ _ _ _ _ passes in
    let m = few _ _ _ _ _ _ _ _ _ passes in
    search rules

pub returns-in_err-block-2 : goal.returns-in_err-block-2
returns-in_err-block-2 t c =
    let passes = passing c.loop-r-test.true c.record_at-x.ensures c.first_arm.ensures.arm c.second_arm.ensures.arm c.turns_of.ensures.turns c.in_ok-record_tests.ensures in
    let e = handed c.from_residual-in_err-block-2.ensures.1 in
    c.loop-r.invariant.2 _ (at_second _ _ _ _ _ _ _ _ _ passes _ (faulty e) c.in_ok-block.ensures (λ n l. e ∙ c.in_err-block-2.ensures n l))

pub loop-r-preserved-then-nests : goal.loop-r-preserved-then-nests
loop-r-preserved-then-nests t c =
    let passes = passing c.loop-r-test.true c.record_at-x.ensures c.first_arm.ensures.arm c.second_arm.ensures.arm c.turns_of.ensures.turns c.in_ok-record_tests.ensures in
    (omega arith, inside _ _ _ _ _ _ _ _ _ passes, (λ v a. c.loop-r.invariant.2 v (at_next _ _ _ _ _ _ _ _ _ passes c.in_ok-block.ensures c.in_ok-block-2.ensures v a)))

pub loop-r-preserved : goal.loop-r-preserved
loop-r-preserved t c =
    let n = sym (ap nests c.record_at-x.ensures) ∙ sym c.nests.ensures ∙ c.if-nests.false in
    (omega arith, omega arith, (λ v a. c.loop-r.invariant.2 v (at_leaf _ _ _ _ _ _ c.loop-r-test.true n c.in_ok-record_tests.ensures v a)))

pub returns : goal.returns
returns t c = c.loop-r.invariant.2 _ (at_end _ _ _ _ _ _ c.loop-r-test.false)
