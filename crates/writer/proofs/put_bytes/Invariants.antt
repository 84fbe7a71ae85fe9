-- The first i bytes are there.
use Rattle.std.proofs.Common.{◌≡◌, length, take}
use Rattle.given.specs.Inner.Over.{over}
use Rattle.writer.proofs.put_bytes.Given as goal

abbrev pub invariant-loop-i : goal.invariant-loop-i
invariant-loop-i l = (length l.out ≡ length l.initial.out) × (l.out ≡ over (take l.i l.bytes) l.initial.out)
