-- `block`: what is known of a record's arms once they are read.
use Rattle.std.proofs.Common.{arith}
use Rattle.listing.proofs.Found.{parts}
use Rattle.listing.proofs.block.+block.Goals as goal

pub block-requires : goal.block-requires
block-requires g t c =
    let n = parts c.loop-r.invariant.walks c.loop-r-test.true c.record_in-x.ensures _ _ c.first_arm.ensures.arm c.second_arm.ensures.arm in
    λ κs s. (omega (arith, n.inside), (s, (omega arith, omega arith, omega (arith, n.inside), n.one)))

pub block-requires-in-loop-r : goal.block-requires-in-loop-r
block-requires-in-loop-r g t c =
    let n = parts c.loop-r.invariant.walks c.loop-r-test.true c.record_in-x.ensures _ _ c.first_arm.ensures.arm c.second_arm.ensures.arm in
    λ κs s. (omega (arith, n.inside), (s, (omega arith, omega arith, omega (arith, n.inside), n.two)))

pub loop-r-preserved : goal.loop-r-preserved
loop-r-preserved g t c =
    let n = parts c.loop-r.invariant.walks c.loop-r-test.true c.record_in-x.ensures _ _ c.first_arm.ensures.arm c.second_arm.ensures.arm in
    record { above = omega arith; inside = n.inside; walks = n.rest }
