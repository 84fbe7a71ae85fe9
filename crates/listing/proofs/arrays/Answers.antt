-- `arrays`: each array has its entry, and its bytes in the plan.
use Rattle.std.proofs.Common.{arith}
use Rattle.listing.proofs.Found.{array_at, array_inside}
use Rattle.listing.proofs.arrays.Goals as goal

pub bounds-starts-a : goal.bounds-starts-a
bounds-starts-a g c =
    let n = array_at _ _ c.requires c.loop-a.a (omega arith) in
    omega (arith, n.low)

pub bounds-starts-a-in-loop-a : goal.bounds-starts-a-in-loop-a
bounds-starts-a-in-loop-a g c =
    let n = array_at _ _ c.requires c.loop-a.a (omega arith) in
    omega (arith, n.low)

pub scratch_at-requires : goal.scratch_at-requires
scratch_at-requires g c = array_inside _ _ c.requires c.loop-a.a (omega arith)

pub array_line-requires : goal.array_line-requires
array_line-requires g c = (array_at _ _ c.requires c.loop-a.a (omega arith)).rises
