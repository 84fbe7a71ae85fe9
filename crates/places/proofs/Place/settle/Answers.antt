use mathlib.Core.Path.{◌≡◌, ap, ◌∙◌}
use Prim.Native.Nat.{◌≤◌, ◌<◌}
use native.Mathlib.Omega.{arith}
use borrow.Author.Tests.{eqb-true, ltb-true}
use Rattle.model.proofs.Booleans.{and_out}
use Rattle.places.specs.Inner.Places.{Spot, spot, left_arm, settled}
use Rattle.places.proofs.Places.{settled_next, settled_last}
use Rattle.places.proofs.Place.settle.Goals as goal

-- one arm less
less : (p q : Spot) → q ≡ left_arm p → 0 < p.depth → (q.depth < p.depth) × (q.depth ≤ p.depth)
less p q e h = let d = ap (λ (x : Spot). x.depth) e in (omega arith, omega arith)

pub loop-q-preserved : goal.loop-q-preserved
loop-q-preserved c =
    let arm-ends : (c.loop-q.q.at ≡ c.loop-q.q.end) × (0 < c.loop-q.q.depth) = let t = and_out _ _ c.loop-q-test.true in (eqb-true _ _ t.0, ltb-true _ _ t.1) in
    let h = arm-ends in
    let l = c.loop-q in
    let d = (less (spot c.loop-q.q c.args.room.now) (spot c.leave-q.result c.args.room.now) c.leave-q.ensures h.1).1 in
    (ap settled c.leave-q.ensures ∙ settled_next _ h.0 h.1 ∙ l.invariant.0, omega (arith, d, l.invariant.1))

pub returns : goal.returns
returns c = settled_last _ c.loop-q-test.false ∙ c.loop-q.invariant.0
