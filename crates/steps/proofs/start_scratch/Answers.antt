use native.Mathlib.Omega.{arith}
use Rattle.steps.proofs.First.{entry_in, begun_none, next_low, begun_scratch, begun_filled, begun_cells, begun_flags}
use Rattle.steps.proofs.start_scratch.Goals as goal
use Rattle.steps.proofs.start_scratch.Goals.{then-scratch_at, else-scratch_at}

pub loop-a-init : goal.loop-a-init
loop-a-init c = begun_none _ _ _

pub length_at-requires : goal.length_at-requires
length_at-requires c = entry_in _ _ _ c.requires.0 c.loop-a-test.true

pub overflow_cast-next : goal.overflow_cast-next
overflow_cast-next c = let p = c.requires in omega (arith, c.length_at.ensures, next_low p.0 c.loop-a.invariant c.loop-a-test.true, p.1.inside)

pub overflow_add-next : goal.overflow_add-next
overflow_add-next c = let p = c.requires in omega (arith, c.length_at.ensures, next_low p.0 c.loop-a.invariant c.loop-a-test.true, p.1.inside)

pub fill-requires : goal.fill-requires
fill-requires c =
    let p = c.requires in
    let b = c.loop-a.invariant in
    let n = c.length_at.ensures in
    record { order = omega arith; inside = omega (arith, n, next_low p.0 b c.loop-a-test.true, b.cells.size, p.1.inside) }

pub overflow_cast-a : goal.overflow_cast-a
overflow_cast-a c = omega (arith, c.requires.0.few, c.loop-a-test.true)

pub with_flag-flags-requires : goal.with_flag-flags-requires
with_flag-flags-requires c = omega (arith, c.requires.0.few, c.loop-a-test.true)

pub loop-a-smaller : goal.loop-a-smaller
loop-a-smaller c = omega (arith, c.loop-a-test.true)

pub loop-a-preserved : goal.loop-a-preserved
loop-a-preserved c =
    let p = c.requires in
    let b = c.loop-a.invariant in
    let h = c.loop-a-test.true in
    let n = c.length_at.ensures in
    elim c.if-scratch_at.branch [
      | then-scratch_at w ↦ rw (n, w.host-is, w.flags-is) (begun_scratch p.0 b h (cc) (rw n at w.fill.ensures))
      | else-scratch_at w ↦ rw (n, w.host-is, w.flags-is) (begun_filled p.0 b h p.1 (cc) w.with_flag-flags.ensures)
    ]

pub returns : goal.returns
returns c =
    let p = c.requires in
    let b = c.loop-a.invariant in
    record { host = begun_cells p.0 b c.loop-a-test.false; flags = begun_flags p.0 b c.loop-a-test.false }
