use mathlib.Core.Path.{sym, ap, ◌∙◌}
use native.Mathlib.Omega.{arith}
use Rattle.model.proofs.Verdicts.{faulty, handed}
use Rattle.sizes.proofs.Body0.{body0_few, body0_inside}
use Rattle.products.proofs.Rows.{call_fits, at_own, Read, parts_of, at_first, at_second, at_next, at_end}
use Rattle.std.proofs.Common.{rules}
use mathlib.Core.Path.{◌≡◌}
use mathlib.Core.Bool.{false}
use mathlib.Core.List.{List}
use Prim.Native.Nat.{ℕ, ◌<◌}
use Rattle.reading.specs.declared.Fields.{Fields}
use Rattle.reading.specs.Bytes.{fields_at, first_arm, second_arm, turns_of}
use Rattle.sizes.specs.Inner.Sizes.{DeclaredFile}
use Rattle.products.specs.Inner.Counts.{Within, too_many}
use Rattle.products.proofs.+calls_between.Goals as goal

-- a record that was read, whose own row does not hold
read_at : {f : List ℕ} {around r end : ℕ} {x : Fields} {i j n : ℕ} → DeclaredFile f → r < end → Within f 0 around r end → x ≡ fields_at f r → i ≡ first_arm x → j ≡ second_arm x → n ≡ turns_of x → too_many f around x ≡ false → Read f around r end x i j n
read_at d h w e one two n t = record { file = d; less = h; within = w; fields = e; one = one; two = two; turns = n; fits = t }

pub record_at-x-requires : goal.record_at-x-requires
record_at-x-requires t c = let u = c.requires in let w = body0_inside _ u.0 _ (ap (λ o. o.offset) u.1) in (w.place, omega arith)

pub too_many-requires : goal.too_many-requires
too_many-requires t c = let u = c.requires in (u.0, u.1, c.loop-r.invariant.2.few, call_fits _ u.0 _ _ _ c.loop-r-test.true c.loop-r.invariant.2 _ c.record_at-x.ensures)

pub overflow_cast-result : goal.overflow_cast-result
overflow_cast-result t c = omega (arith, body0_few _ c.requires.0)

pub returns-then-too_many : goal.returns-then-too_many
returns-then-too_many t c = c.loop-r.invariant.3 _ (at_own _ c.requires.0 _ _ _ c.loop-r-test.true c.loop-r.invariant.2 _ c.record_at-x.ensures (sym c.too_many.ensures ∙ c.if-too_many.true))

pub overflow_add-second-in-loop-r : goal.overflow_add-second-in-loop-r
overflow_add-second-in-loop-r t c = let n = body0_few _ c.requires.0 in search rules

pub overflow_add-next : goal.overflow_add-next
overflow_add-next t c = let n = body0_few _ c.requires.0 in search rules

pub calls_between-requires : goal.calls_between-requires
calls_between-requires t c =
    let p = parts_of (read_at c.requires.0 c.loop-r-test.true c.loop-r.invariant.2 c.record_at-x.ensures c.first_arm.ensures.arm c.second_arm.ensures.arm c.turns_of.ensures.turns (sym c.too_many.ensures ∙ c.if-too_many.false)) in let u = c.requires in (omega (arith, p.inside), (u.0, u.1, omega arith, omega (arith, p.inside), p.one))

pub returns-in_err-calls_between : goal.returns-in_err-calls_between
returns-in_err-calls_between t c =
    let here = read_at c.requires.0 c.loop-r-test.true c.loop-r.invariant.2 c.record_at-x.ensures c.first_arm.ensures.arm c.second_arm.ensures.arm c.turns_of.ensures.turns (sym c.too_many.ensures ∙ c.if-too_many.false) in
    let e = handed c.from_residual.ensures.1 in
    c.loop-r.invariant.3 _ (at_first here _ (faulty e) (e ∙ c.in_err-calls_between.ensures))

pub calls_between-requires-then-r-next : goal.calls_between-requires-then-r-next
calls_between-requires-then-r-next t c =
    let p = parts_of (read_at c.requires.0 c.loop-r-test.true c.loop-r.invariant.2 c.record_at-x.ensures c.first_arm.ensures.arm c.second_arm.ensures.arm c.turns_of.ensures.turns (sym c.too_many.ensures ∙ c.if-too_many.false)) in let u = c.requires in (omega (arith, p.inside), (u.0, u.1, omega arith, omega (arith, p.inside), p.two))

pub returns-in_err-calls_between-2 : goal.returns-in_err-calls_between-2
returns-in_err-calls_between-2 t c =
    let here = read_at c.requires.0 c.loop-r-test.true c.loop-r.invariant.2 c.record_at-x.ensures c.first_arm.ensures.arm c.second_arm.ensures.arm c.turns_of.ensures.turns (sym c.too_many.ensures ∙ c.if-too_many.false) in
    let e = handed c.from_residual-in_err-calls_between-2.ensures.1 in
    c.loop-r.invariant.3 _ (at_second here _ c.in_ok-calls_between.ensures (faulty e) (e ∙ c.in_err-calls_between-2.ensures))

pub loop-r-preserved-in_ok-calls_between-2 : goal.loop-r-preserved-in_ok-calls_between-2
loop-r-preserved-in_ok-calls_between-2 t c =
    let here = read_at c.requires.0 c.loop-r-test.true c.loop-r.invariant.2 c.record_at-x.ensures c.first_arm.ensures.arm c.second_arm.ensures.arm c.turns_of.ensures.turns (sym c.too_many.ensures ∙ c.if-too_many.false) in
    let p = parts_of here in
    (omega arith, p.inside, p.rest, (λ v a. c.loop-r.invariant.3 v (at_next here v c.in_ok-calls_between.ensures c.in_ok-calls_between-2.ensures a)))

pub loop-r-preserved : goal.loop-r-preserved
loop-r-preserved t c =
    let here = read_at c.requires.0 c.loop-r-test.true c.loop-r.invariant.2 c.record_at-x.ensures c.first_arm.ensures.arm c.second_arm.ensures.arm c.turns_of.ensures.turns (sym c.too_many.ensures ∙ c.if-too_many.false) in
    let p = parts_of here in
    (omega arith, p.inside, p.rest, (λ v a. c.loop-r.invariant.3 v (at_next here v (at_end _ _ _ _ (omega arith)) (at_end _ _ _ _ (omega arith)) a)))

pub returns : goal.returns
returns t c = c.loop-r.invariant.3 _ (at_end _ _ _ _ c.loop-r-test.false)
