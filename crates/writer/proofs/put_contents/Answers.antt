-- `writer::put_contents` writes header and contents of the expansion's file.
use Prim.Native.Nat.{◌+◌, ◌*◌, ◌≤◌}
use native.Mathlib.Omega.{arith}
use Rattle.reading.specs.Bytes.{array_count}
use lib.ListN.{length}
use Rattle.writer.proofs.Files.{lengths_over, contents_over}
use Rattle.writer.proofs.put_contents.Goals as goal

pub returns-clause-bytes : goal.returns-clause-bytes
returns-clause-bytes c = λ i. omega (arith, c.type_inv.plan i)

pub returns-clause-written : goal.returns-clause-written
returns-clause-written c =
    let long : 4 + 2 * array_count c.args.plan.now ≤ length c.args.plan.now = omega (arith, c.requires.0, c.requires.1) in
    contents_over _ long _ _ _ _ _ c.requires.0 (omega (arith, c.requires.2)) (lengths_over _ long _ _ _ _ c.requires.0 (omega (arith, c.requires.2)) c.put_header.ensures c.put_bytes.ensures) c.put_entry.ensures
