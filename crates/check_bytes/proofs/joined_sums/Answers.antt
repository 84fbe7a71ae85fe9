-- Few bytes in front of the back, and a stretch in front of what is behind it.
use Rattle.std.proofs.Common.{◌≡◌, refl, ◌++◌, ◌%◌, length, take-append-drop, arith, ap}
use Rattle.check_bytes.proofs.Joins.{joined_is, joined_by, joined_more, no_stretch, stretch_rows, stretch_taken, all_stretches}
use Rattle.check_bytes.proofs.joined_sums.Goals as goal

pub loop-x-init : goal.loop-x-init
loop-x-init c =
    let e : c.into_iter-x-iterator.result.rest.now ≡ c.split_at.result.0.now = cc in
    let rows : length c.into_iter-x-iterator.result.rest.now % 32 ≡ 0 = omega (arith, ap length e, c.split_at.ensures.front_len, c.rows_end.ensures) in
    let sums = c.in_front-sums.ensures in
    record { finite = tt; size = cc; taken = no_stretch _ _ rows (omega (arith, sums.plain)) (omega (arith, sums.weighted)) }

pub stretch-requires : goal.stretch-requires
stretch-requires c =
    let v = c.loop-x.invariant in
    let s = c.in-Some.ensures.steps in
    stretch_rows _ _ _ _ _ _ v.taken s.1.0 (rw v.size at s.1.1)

pub loop-x-preserved : goal.loop-x-preserved
loop-x-preserved c =
    let v = c.loop-x.invariant in
    let s = c.in-Some.ensures.steps in
    let sums = c.in_front-sums-in-loop-x.ensures in
    record { finite = tt; size = cc; taken = stretch_taken _ _ _ _ _ _ v.taken s.1.0 (rw v.size at s.1.1) _ (joined_by _ _ _ _ _ c.stretch.ensures refl (sums.plain, sums.weighted)) }

pub returns : goal.returns
returns c =
    let front = c.args.front.now in
    let sums = c.in_front-sums.ensures in
    let behind = joined_by _ _ _ _ _ c.rest.ensures refl (sums.plain, sums.weighted) in
    let rows = all_stretches _ _ _ _ c.in-None.ensures.steps.1.0 c.loop-x.invariant.taken in
    let e : c.into_iter-x-iterator.result.rest.now ≡ c.split_at.result.0.now = cc in
    let whole : c.into_iter-x-iterator.result.rest.now ++ c.split_at.result.1.now ≡ front = rw (e, c.split_at.ensures.front, c.split_at.ensures.back) (take-append-drop c.rows_end.result front) in
    joined_is front c.args.back _ (rw whole at (joined_more _ _ _ _ _ behind rows))
