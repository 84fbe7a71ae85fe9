use Prim.Native.Nat.{◌+◌, ◌≤◌}
use mathlib.Core.Path.{◌≡◌, refl, sym, ◌∙◌}
use native.Mathlib.Omega.{arith}
use Rattle.model.proofs.Check.{fits_none, exact}
use Rattle.reading.specs.Bytes.{array_count}
use Rattle.format.specs.Plans.{plan_of}
use Rattle.reading.proofs.Tables.{first_zero, all_cells}
use Rattle.format.proofs.Walking.{opened_facts}
use Rattle.cells.proofs.answer_with.Goals as goal

pub loop-a-init : goal.loop-a-init
loop-a-init c = let p = c.requires in (omega arith, sym (first_zero _), fits_none _, p.3, refl, p.4, refl)

pub overflow_add-next : goal.overflow_add-next
overflow_add-next c =
    let few : c.loop-a.a + 1 ≤ 32 = let p = c.requires in omega (arith, p.1, (opened_facts _ p.0.plain.opens).bounds.header.arrays, c.loop-a-test.true) in
    omega (arith, few)

pub offset_bounds-starts-a : goal.offset_bounds-starts-a
offset_bounds-starts-a c =
    let few : c.loop-a.a + 1 ≤ 32 = let p = c.requires in omega (arith, p.1, (opened_facts _ p.0.plain.opens).bounds.header.arrays, c.loop-a-test.true) in
    omega (arith, few)

pub bounds-starts-a : goal.bounds-starts-a
bounds-starts-a c =
    let few : c.loop-a.a + 1 ≤ 32 = let p = c.requires in omega (arith, p.1, (opened_facts _ p.0.plain.opens).bounds.header.arrays, c.loop-a-test.true) in
    omega (arith, few)

pub overflow_cast-array : goal.overflow_cast-array
overflow_cast-array c =
    let few : c.loop-a.a + 1 ≤ 32 = let p = c.requires in omega (arith, p.1, (opened_facts _ p.0.plain.opens).bounds.header.arrays, c.loop-a-test.true) in
    omega (arith, few)

pub over_array-v-requires : goal.over_array-v-requires
over_array-v-requires c =
    let p = c.requires in
    let l = c.loop-a in
    let more : l.a + 1 ≤ array_count c.args.plan.file.now = omega (arith, p.1, c.loop-a-test.true) in
    (p.0, c.marks.ensures, record { one = omega (arith, more); begins = l.invariant.1; ends = p.2.first (l.a + 1) more }, l.invariant.2, l.invariant.3, l.invariant.5)

pub loop-a-smaller : goal.loop-a-smaller
loop-a-smaller c = omega (arith, c.loop-a-test.true)

pub loop-a-preserved : goal.loop-a-preserved
loop-a-preserved c =
    let p = c.requires in
    let l = c.loop-a in
    let more : l.a + 1 ≤ array_count c.args.plan.file.now = omega (arith, p.1, c.loop-a-test.true) in
    let o = c.over_array-v in (
      omega (arith, c.loop-a-test.true),
      p.2.first (l.a + 1) more,
      o.ensures.0,
      o.ensures.1,
      o.auto.rows ∙ l.invariant.4,
      o.ensures.2,
      o.auto.ahead ∙ l.invariant.6,
    )

pub returns : goal.returns
unfolding plan_of
returns c =
    let p = c.requires in
    let l = c.loop-a in
    let n : l.a ≡ array_count c.args.plan.file.now = omega (arith, p.1, l.invariant.0, c.loop-a-test.false) in
    (exact (plan_of c.args.plan.file.now) l.v).0 (rw (all_cells c.args.plan.file.now, ← n, ← l.invariant.1) l.invariant.2)
