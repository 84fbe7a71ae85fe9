use mathlib.Core.Path.{◌≡◌, sym, ◌∙◌}
use Prim.Native.Nat.{◌*◌, max}
use native.Mathlib.Omega.{arith}
use Rattle.products.proofs.Counts.{Arms, arms_of, product_low, product_next, product_first, product_last}
use Rattle.std.proofs.Common.{rules}
use Rattle.products.proofs.+largest.Goals as goal

pub loop-r-init : goal.loop-r-init
loop-r-init t c = (search rules, search rules, search rules, c.requires.3, product_first _ _ _)

pub largest-one-requires : goal.largest-one-requires
largest-one-requires t c =
    let arms : Arms c.args.plan.now c.loop-r.r c.args.end c.first_arm.result c.second_arm.result = arms_of _ _ _ c.loop-r-test.true c.loop-r.invariant.3 _ c.record_at-x.ensures _ _ c.first_arm.ensures.arm c.second_arm.ensures.arm in
    let a = arms in let p = c.requires.2 in (omega arith, (omega arith, omega arith, record { place = p.place; room = omega arith }, a.one))

pub largest-two-requires : goal.largest-two-requires
largest-two-requires t c =
    let arms : Arms c.args.plan.now c.loop-r.r c.args.end c.first_arm.result c.second_arm.result = arms_of _ _ _ c.loop-r-test.true c.loop-r.invariant.3 _ c.record_at-x.ensures _ _ c.first_arm.ensures.arm c.second_arm.ensures.arm in
    let a = arms in let p = c.requires.2 in (omega arith, (omega arith, omega arith, record { place = p.place; room = omega arith }, a.two))

pub overflow_mul-turns_of : goal.overflow_mul-turns_of
overflow_mul-turns_of t c =
    let low = product_low _ _ _ c.loop-r-test.true c.loop-r.invariant.3 _ c.record_at-x.ensures _ _ c.first_arm.ensures.arm c.second_arm.ensures.arm _ _ _ c.turns_of.ensures.turns c.largest-one.ensures c.largest-two.ensures in
    let m = rw (← c.max.ensures) at low in
    search rules

pub loop-r-preserved : goal.loop-r-preserved
loop-r-preserved t c =
    let arms : Arms c.args.plan.now c.loop-r.r c.args.end c.first_arm.result c.second_arm.result = arms_of _ _ _ c.loop-r-test.true c.loop-r.invariant.3 _ c.record_at-x.ensures _ _ c.first_arm.ensures.arm c.second_arm.ensures.arm in
    let a = arms in
    let next = product_next _ _ _ c.loop-r-test.true c.loop-r.invariant.3 _ c.record_at-x.ensures _ _ c.first_arm.ensures.arm c.second_arm.ensures.arm _ _ _ c.turns_of.ensures.turns c.largest-one.ensures c.largest-two.ensures _ _ c.loop-r.invariant.4 in
    let most : c.max-most.result ≡ max (c.turns_of.result * c.max.result) c.loop-r.most = omega (arith, c.max-most.ensures) in
    (omega arith, a.inside, omega (arith, most), a.rest, rw (most, c.max.ensures) next)

pub returns : goal.returns
returns t c = sym (product_last _ _ _ _ c.loop-r-test.false c.loop-r.invariant.2) ∙ c.loop-r.invariant.4
