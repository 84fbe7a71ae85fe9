use mathlib.Core.Path.{ap}
use Prim.Native.Nat.{ℕ}
use native.Mathlib.Omega.{arith}
use lib.ListN.{length-set}
use Rattle.model.specs.Blocks.{size}
use Rattle.sizes.specs.Inner.Sizes.{called}
use Rattle.sizes.proofs.Tables.{stored, bodies_low}
use Rattle.std.proofs.Common.{rules}
use Rattle.sizes.proofs.pass_sizes.Goals as goal

pub loop-b-init : goal.loop-b-init
loop-b-init c = (search rules, (λ k h m. absurd (omega arith)))

pub pass_size-requires : goal.pass_size-requires
pass_size-requires c = (c.requires.0, c.requires.1, omega arith, omega (arith, ap (λ o. o.bodies) c.requires.1))

pub offset_bounds-sizes-b : goal.offset_bounds-sizes-b
offset_bounds-sizes-b c = record { fits = omega (arith, ap (λ o. o.bodies) c.requires.1, bodies_low _ c.requires.0) }

pub bounds-sizes-b : goal.bounds-sizes-b
bounds-sizes-b c = omega (arith, ap (λ o. o.bodies) c.requires.1, bodies_low _ c.requires.0)

pub loop-b-preserved : goal.loop-b-preserved
loop-b-preserved c =
    let l = c.loop-b in
    let f = c.args.plan.now in
    let few = bodies_low f c.requires.0 in
    (simp length-set l.invariant.0, (λ k h m. stored (λ (b : ℕ). size (called f b)) l.sizes l.b _ (omega (arith, ap (λ o. o.bodies) c.requires.1)) c.pass_size.ensures k (λ z. l.invariant.1 k h (omega arith))))

pub returns : goal.returns
returns c = record { each = λ b h m. c.loop-b.invariant.1 b h (omega (arith, ap (λ o. o.bodies) c.requires.1)) }
