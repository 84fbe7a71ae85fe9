use Rattle.memories.proofs.Cells.{changed_again}
use Rattle.steps.proofs.First.{zeros}
use Rattle.steps.proofs.write_start.Goals as goal

pub start_scratch-requires : goal.start_scratch-requires
start_scratch-requires c =
    let p = c.requires in
    (p.0, rw p.1 at (zeros _ p.2.inside c.fill.ensures))

pub returns : goal.returns
returns c =
    let s = c.start_scratch.ensures in
    let n = c.requires.1 in
    record { host = changed_again c.fill.ensures (rw n s.host); card = c.fill-2.ensures; latest = c.fill-3.ensures; flags = s.flags }
