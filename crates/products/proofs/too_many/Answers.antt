-- `products::too_many` tells whether the product around a call and that inside its pass together pass 4,096.
use mathlib.Core.Path.{ap}
use native.Mathlib.Nat.{mul-le-mul}
use native.Mathlib.Omega.{arith}
use borrow.Author.Tests.{eq-eqb, ne_eqb}
use Rattle.passes.specs.Inner.Passes.{PassAt}
use Rattle.passes.proofs.Records.{readable, declared_low, records_low, records_inside}
use Rattle.sizes.proofs.Passes.{pass_stands}
use Rattle.products.specs.Inner.Counts.{too_many}
use Rattle.products.proofs.Counts.{block_low, others_counted, pass_product}
use Rattle.std.proofs.Common.{rules}
use Rattle.products.proofs.too_many.Goals as goal

pub returns-then-x-ne-CALL : goal.returns-then-x-ne-CALL
unfolding too_many
returns-then-x-ne-CALL c = rw (ne_eqb c.args.x.kind 8 c.if-x-ne-CALL.true)

pub extent_of-e-requires : goal.extent_of-e-requires
extent_of-e-requires c = let u = c.requires in readable _ u.0.opened _ u.1 _ (u.3 c.if-x-ne-CALL.false).1

pub overflow_add-e : goal.overflow_add-e
overflow_add-e c =
    let at : PassAt c.args.plan.now c.extent_of-e.result = let u = c.requires in let b = u.3 c.if-x-ne-CALL.false in pass_stands _ u.0 _ u.1 _ b.0 b.1 _ c.extent_of-e.ensures in
    let p = at in record { fits = omega (arith, declared_low _ _ p, records_low _ _ p) }

pub overflow_add-e-2 : goal.overflow_add-e-2
overflow_add-e-2 c =
    let at : PassAt c.args.plan.now c.extent_of-e.result = let u = c.requires in let b = u.3 c.if-x-ne-CALL.false in pass_stands _ u.0 _ u.1 _ b.0 b.1 _ c.extent_of-e.ensures in
    let p = at in record { fits = omega (arith, records_low _ _ p) }

pub largest-inside-requires : goal.largest-inside-requires
largest-inside-requires c =
    let at : PassAt c.args.plan.now c.extent_of-e.result = let u = c.requires in let b = u.3 c.if-x-ne-CALL.false in pass_stands _ u.0 _ u.1 _ b.0 b.1 _ c.extent_of-e.ensures in
    let p = at in (omega (arith, declared_low _ _ p), records_low _ _ p, records_inside _ _ p, others_counted _ _ p)

pub overflow_mul-result : goal.overflow_mul-result
overflow_mul-result c =
    let at : PassAt c.args.plan.now c.extent_of-e.result = let u = c.requires in let b = u.3 c.if-x-ne-CALL.false in pass_stands _ u.0 _ u.1 _ b.0 b.1 _ c.extent_of-e.ensures in
    let low = rw (← c.largest-inside.ensures) at (block_low _ _ _ (others_counted _ _ at)) in
    let m = mul-le-mul c.requires.2 low in
    search rules

pub returns : goal.returns
unfolding too_many
returns c =
    let at : PassAt c.args.plan.now c.extent_of-e.result = let u = c.requires in let b = u.3 c.if-x-ne-CALL.false in pass_stands _ u.0 _ u.1 _ b.0 b.1 _ c.extent_of-e.ensures in
    rw (eq-eqb c.args.x.kind 8 c.if-x-ne-CALL.false, ← pass_product _ _ at _ _ (ap (λ x. x.body) c.extent_of-e.ensures) c.largest-inside.ensures)
