-- `writer::put_bytes` copies bytes to the front of the output.
use Rattle.std.proofs.Common.{◌∙◌, refl, arith, rules, take_all}
use lib.ListN.{length-set}
use Rattle.given.proofs.Over.{over_none}
use Rattle.writer.proofs.Over.{over_next}
use Rattle.writer.proofs.put_bytes.Goals as goal

pub loop-i-init : goal.loop-i-init
loop-i-init c = (refl, over_none _)

pub loop-i-preserved : goal.loop-i-preserved
loop-i-preserved c =
    let l = c.loop-i in
    let a = c.args in
    (simp length-set l.invariant.0, rw l.invariant.1 (over_next a.bytes.now a.out.now l.i (omega arith) (omega arith)))

pub returns : goal.returns
returns c =
    let l = c.loop-i in
    let a = c.args in
    l.invariant.1 ∙ rw (take_all l.i a.bytes.now (omega arith))
