use Prim.Native.Nat.{◌+◌, ◌-◌}
use mathlib.Core.Path.{◌≡◌, refl, sym, ap, ◌∙◌}
use native.Mathlib.Omega.{arith}
use Rattle.model.specs.Sides.{is_scratch}
use Rattle.model.proofs.Status.{at_start}
use Rattle.reading.specs.Bytes.{layout_of}
use Rattle.reading.proofs.Tables.{scratch_is}
use Rattle.contents.proofs.Bounds.{entry_inside}
use Rattle.format.proofs.Walking.{opened_facts}
use Rattle.statuses.specs.Inner.Sets.{index}
use Rattle.summary.proofs.Keeping.{room_later}
use Rattle.cells.proofs.Answers.{Ends, ends, looked, shared}
use Rattle.cells.proofs.over_array.Goals as goal

pub scratch_at-requires : goal.scratch_at-requires
scratch_at-requires c = let p = c.requires in entry_inside _ (opened_facts _ p.0.plain.opens).bounds _ p.2.one

pub loop-c-init : goal.loop-c-init
loop-c-init c =
    let here : Ends c.args.plan.file.now c.args.cells.array.0 c.args.cells.first c.args.cells.next = let p = c.requires in ends _ _ p.0.plain _ _ _ p.2 in
    let p = c.requires in (omega arith, omega (arith, here.size), p.3, p.4, refl, p.5, refl)

pub overflow_sub-spot : goal.overflow_sub-spot
overflow_sub-spot c = c.loop-c.invariant.0

pub stop_of-k-requires : goal.stop_of-k-requires
stop_of-k-requires c =
    let here : Ends c.args.plan.file.now c.args.cells.array.0 c.args.cells.first c.args.cells.next = let p = c.requires in ends _ _ p.0.plain _ _ _ p.2 in
    let p = c.requires in
    let starts : c.start_of-start.result ≡ index (at_start (is_scratch (layout_of c.args.plan.file.now) c.args.cells.array.0)) = c.start_of-start.ensures.1 ∙ ap (λ b. index (at_start b)) (c.scratch_at.ensures ∙ sym (scratch_is _ _ p.2.one)) in
    let l = c.loop-c in
    let h = c.loop-c-test.true in
    (p.0, omega (arith, here.size, l.invariant.0, h), omega (arith, p.2.begins, l.invariant.0), omega (arith, here.limit, h), l.invariant.3, l.invariant.5, starts)

pub overflow_cast-c : goal.overflow_cast-c
overflow_cast-c c =
    let here : Ends c.args.plan.file.now c.args.cells.array.0 c.args.cells.first c.args.cells.next = let p = c.requires in ends _ _ p.0.plain _ _ _ p.2 in
    omega (arith, here.limit, c.loop-c-test.true)

pub overflow_add-c : goal.overflow_add-c
overflow_add-c c =
    let here : Ends c.args.plan.file.now c.args.cells.array.0 c.args.cells.first c.args.cells.next = let p = c.requires in ends _ _ p.0.plain _ _ _ p.2 in
    omega (arith, here.limit, c.loop-c-test.true)

pub next_class-c-requires : goal.next_class-c-requires
next_class-c-requires c =
    let here : Ends c.args.plan.file.now c.args.cells.array.0 c.args.cells.first c.args.cells.next = let p = c.requires in ends _ _ p.0.plain _ _ _ p.2 in
    (omega (arith, c.loop-c-test.true), here.limit)

pub loop-c-smaller : goal.loop-c-smaller
loop-c-smaller c = omega (arith, c.next_class-c.ensures.0, c.loop-c-test.true)

pub loop-c-preserved : goal.loop-c-preserved
loop-c-preserved c =
    let p = c.requires in
    let l = c.loop-c in
    let s = c.stop_of-k in
    let n = c.next_class-c in (
      omega (arith, l.invariant.0, n.ensures.0),
      n.ensures.1,
      shared _ _ p.0.plain _ _ _ p.2 _ p.1 c.with_cell-v.result _ n.ensures.1 (n.result - (l.c + 1)) (l.c + 1) (omega (arith, l.invariant.0)) (omega (arith, n.ensures.0)) n.ensures.2
          (looked _ _ p.0.plain _ _ _ p.2 l.c l.v l.invariant.2 _ s.result s.ensures.0 c.with_cell-v.ensures),
      room_later _ _ _ _ n.ensures.0 s.ensures.1,
      s.auto.rows ∙ l.invariant.4,
      s.ensures.2,
      s.auto.ahead ∙ l.invariant.6,
    )

pub returns : goal.returns
returns c = let l = c.loop-c in let n : l.c ≡ c.args.cells.next = omega (arith, l.invariant.1, c.loop-c-test.false) in (rw n at l.invariant.2, rw n at l.invariant.3, l.invariant.5)
