-- `sizes::pass_size` counts the records that a call of a pass becomes.
use mathlib.Core.Path.{sym, ap, ◌∙◌}
use Prim.Native.Nat.{ℕ, ◌+◌, ◌-◌}
use native.Mathlib.Omega.{arith}
use Rattle.model.specs.Blocks.{size}
use Rattle.passes.specs.Inner.Passes.{PassAt}
use Rattle.passes.proofs.Records.{readable, declared_low, records_low, records_inside}
use Rattle.files.proofs.Given as given
use Rattle.sizes.specs.Inner.Sizes.{called}
use Rattle.sizes.proofs.Passes.{pass_stands, called_at}
use Rattle.sizes.proofs.pass_size.Goals as goal

pub extent_of-e-requires : goal.extent_of-e-requires
extent_of-e-requires c = readable _ c.requires.0.opened _ c.requires.1 _ c.requires.3

pub declared_size-requires : goal.declared_size-requires
declared_size-requires c =
    let at : PassAt c.args.plan.now c.extent_of-e.result = pass_stands _ c.requires.0 _ c.requires.1 _ c.requires.2 c.requires.3 _ c.extent_of-e.ensures in
    let p = at in
    (omega (arith, declared_low _ _ p, records_low _ _ p), record { place = p.place; room = omega (arith, (records_inside _ _ p).room, declared_low _ _ p) })

pub overflow_sub-result : goal.overflow_sub-result
overflow_sub-result c =
    let at : PassAt c.args.plan.now c.extent_of-e.result = pass_stands _ c.requires.0 _ c.requires.1 _ c.requires.2 c.requires.3 _ c.extent_of-e.ensures in
    declared_low _ _ at

pub overflow_cast-result : goal.overflow_cast-result
overflow_cast-result c =
    let at : PassAt c.args.plan.now c.extent_of-e.result = pass_stands _ c.requires.0 _ c.requires.1 _ c.requires.2 c.requires.3 _ c.extent_of-e.ensures in
    omega (arith, records_low _ _ at)

pub overflow_add-result : goal.overflow_add-result
overflow_add-result c =
    let at : PassAt c.args.plan.now c.extent_of-e.result = pass_stands _ c.requires.0 _ c.requires.1 _ c.requires.2 c.requires.3 _ c.extent_of-e.ensures in
    let p = at in
    let e = c.extent_of-e.result in
    record { fits = omega (arith, c.declared_size.ensures, given.declared_low c.args.plan.now e.from e.declarations, declared_low _ _ p, records_low _ _ p) }

pub returns : goal.returns
returns c =
    let at : PassAt c.args.plan.now c.extent_of-e.result = pass_stands _ c.requires.0 _ c.requires.1 _ c.requires.2 c.requires.3 _ c.extent_of-e.ensures in
    let e = c.extent_of-e in
    ap (λ n. n + (e.result.records - e.result.declarations)) c.declared_size.ensures ∙ sym (called_at _ _ at) ∙ ap (λ (b : ℕ). size (called c.args.plan.now b)) (ap (λ x. x.body) e.ensures)
