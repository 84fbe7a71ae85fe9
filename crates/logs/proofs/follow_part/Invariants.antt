use lib.ListN.{take}
use Rattle.logs.specs.Logged.{entries_of}
use Rattle.logs.specs.Inner.Following.{LedOn, staged, held_at}
use Rattle.logs.proofs.follow_part.Given as goal

abbrev pub invariant-loop-i : goal.invariant-loop-i
invariant-loop-i l = LedOn l.plan l.bodies (take l.i (entries_of l.part)) (staged (held_at l.initial.p l.initial.waiting l.initial.read) l.initial.cells l.initial.room) (staged (held_at l.p l.waiting l.read) l.cells l.room)
