use mathlib.Core.Path.{◌≡◌, ap, sym}
use Prim.Native.Nat.{◌+◌}
use native.Mathlib.Omega.{arith}
use lib.ListN.{get_or, length-set}
use Rattle.reading.specs.Bytes.{records_in}
use Rattle.sizes.specs.Inner.Sizes.{place}
use Rattle.sizes.proofs.Tables.{stored}
use Rattle.sizes.proofs.Body0.{place_none, place_step, end_read, body0_few, place_low}
use Rattle.std.proofs.Common.{rules}
use Rattle.sizes.proofs.places.Goals as goal

pub pass_sizes-sizes-requires : goal.pass_sizes-sizes-requires
pass_sizes-sizes-requires c = c.requires

pub body0_end-r-end-requires : goal.body0_end-r-end-requires
body0_end-r-end-requires c = omega (arith, end_read _ c.requires.0 _ c.requires.1, body0_few _ c.requires.0)

pub loop-r-init : goal.loop-r-init
loop-r-init c = (sym (place_none _), search rules, (λ k h. let e : k ≡ 0 = omega arith in rw e (sym (place_none _))))

pub record_size-n-requires : goal.record_size-n-requires
record_size-n-requires c =
    let last : get_or c.args.o.body_starts 1 0 ≡ records_in c.args.plan.now 0 = end_read _ c.requires.0 _ c.requires.1 in
    (c.requires.0, ap (λ o. o.offset) c.requires.1, c.pass_sizes-sizes.ensures, omega (arith, last))

pub overflow_add-n : goal.overflow_add-n
overflow_add-n c =
    let last : get_or c.args.o.body_starts 1 0 ≡ records_in c.args.plan.now 0 = end_read _ c.requires.0 _ c.requires.1 in
    let e = last in
    let n = place_step _ _ _ _ c.loop-r.invariant.0 c.record_size-n.ensures in
    record { fits = omega (arith, n, body0_few c.args.plan.now c.requires.0, place_low c.args.plan.now c.requires.0 (c.loop-r.r + 1) (omega arith)) }

pub offset_bounds-places-r : goal.offset_bounds-places-r
offset_bounds-places-r c =
    let last : get_or c.args.o.body_starts 1 0 ≡ records_in c.args.plan.now 0 = end_read _ c.requires.0 _ c.requires.1 in
    record { fits = omega (arith, last, body0_few _ c.requires.0) }

pub bounds-places-r : goal.bounds-places-r
bounds-places-r c =
    let last : get_or c.args.o.body_starts 1 0 ≡ records_in c.args.plan.now 0 = end_read _ c.requires.0 _ c.requires.1 in
    omega (arith, last, body0_few _ c.requires.0)

pub loop-r-preserved : goal.loop-r-preserved
loop-r-preserved c =
    let last : get_or c.args.o.body_starts 1 0 ≡ records_in c.args.plan.now 0 = end_read _ c.requires.0 _ c.requires.1 in
    let l = c.loop-r in
    let e = last in
    let few = body0_few c.args.plan.now c.requires.0 in
    let n = place_step _ _ _ _ l.invariant.0 c.record_size-n.ensures in
    (n, simp length-set l.invariant.1, (λ k m. stored (place c.args.plan.now) l.places (l.r + 1) _ (omega arith) n k (λ z. l.invariant.2 k (omega arith))))

pub returns : goal.returns
returns c =
    let last : get_or c.args.o.body_starts 1 0 ≡ records_in c.args.plan.now 0 = end_read _ c.requires.0 _ c.requires.1 in
    let e = last in record { each = λ r h. c.loop-r.invariant.2 r (omega arith) }
