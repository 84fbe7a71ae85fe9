-- `given::put_record` writes the eight bytes of a record.
use native.Mathlib.Omega.{arith}
use lib.ListN.{length-set}
use lib.Seq.{sets-eq}
use Rattle.files.specs.Files.{record_bytes}
use Rattle.given.specs.Inner.Over.{over}
use Rattle.given.proofs.Records.{high_byte}
use Rattle.given.proofs.put_record.Goals as goal

pub bounds-out-1 : goal.bounds-out-1
bounds-out-1 c = simp length-set (omega arith)

pub bounds-out-2 : goal.bounds-out-2
bounds-out-2 c = simp length-set (omega arith)

pub bounds-out-3 : goal.bounds-out-3
bounds-out-3 c = simp length-set (omega arith)

pub bounds-out-4 : goal.bounds-out-4
bounds-out-4 c = simp length-set (omega arith)

pub bounds-out-5 : goal.bounds-out-5
bounds-out-5 c = simp length-set (omega arith)

pub bounds-out-6 : goal.bounds-out-6
bounds-out-6 c = simp length-set (omega arith)

pub bounds-out-7 : goal.bounds-out-7
bounds-out-7 c = simp length-set (omega arith)

pub returns : goal.returns
unfolding over
returns c =
    let p = high_byte c.args.x.p (omega arith) in
    let q = high_byte c.args.x.q (omega arith) in
    rw (c.to_le_bytes.ensures, c.to_le_bytes-2.ensures, p, q) (sets-eq (record_bytes c.args.x) c.args.out.now 0 c.requires)
