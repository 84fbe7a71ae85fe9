-- `bodies`: the count of bodies that opening found is the file's.
use Rattle.std.proofs.Common.{arith}
use Rattle.listing.proofs.Found.{counted}
use Rattle.listing.proofs.bodies.Goals as goal

pub body_lines-requires : goal.body_lines-requires
body_lines-requires g c = (c.requires, omega (arith, counted _ _ c.requires, c.loop-b-test.true, c.from-b-end.ensures))
