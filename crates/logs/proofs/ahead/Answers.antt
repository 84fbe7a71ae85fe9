use mathlib.Core.Path.{refl, ap, ◌∙◌}
use Prim.Native.Nat.{◌+◌}
use native.Mathlib.Omega.{arith}
use Rattle.reading.specs.Bytes.{first_arm, second_arm}
use Rattle.places.specs.Inner.Places.{spot, settled}
use Rattle.logs.proofs.Choosing.{ahead_arm, ahead_loop, ahead_past, place_is}
use Rattle.logs.proofs.ahead.Goals as goal

pub returns-then-arm-gt0 : goal.returns-then-arm-gt0
returns-then-arm-gt0 c = let n = c.first_arm-arm.ensures.arm in ahead_arm (spot c.args.p c.args.room.now) c.args.x (omega (arith, n, c.if-arm-gt0.true)) _ refl (omega (arith, n))

pub returns-then-x-ne-BRANCH : goal.returns-then-x-ne-BRANCH
returns-then-x-ne-BRANCH c = let n = c.first_arm-arm.ensures.arm in ahead_loop (spot c.args.p c.args.room.now) c.args.x (omega (arith, n, c.if-arm-gt0.false)) c.if-x-ne-BRANCH.true c.requires.3 _ refl refl

pub returns : goal.returns
returns c = let n = c.first_arm-arm.ensures.arm in let m = c.second_arm.ensures.arm in let p = spot c.args.p c.args.room.now in ahead_past p c.args.x (omega (arith, n, c.if-arm-gt0.false)) c.if-x-ne-BRANCH.false _ _ (c.settle.ensures ∙ ap settled (place_is c.args.p c.args.room.now _ (c.args.p.at + 1 + first_arm c.args.x + second_arm c.args.x) (omega (arith, n, m)) c.requires.1)) refl refl
