-- `writer::Expansion::put_body` writes the records of the expansion. The invariant: what stands for the records before r is there.
use mathlib.Core.Path.{◌≡◌}
use lib.ListN.{length}
use Rattle.given.specs.Inner.Over.{over, bytes_of}
use Rattle.writer.specs.Inner.Pieces.{pieces}
use Rattle.writer.proofs.Expansion.put_body.Given as goal

abbrev pub invariant-loop-r : goal.invariant-loop-r
invariant-loop-r l = (length l.out ≡ length l.initial.out) × (l.out ≡ over (bytes_of (pieces l.self.plan.now l.r)) l.initial.out)
