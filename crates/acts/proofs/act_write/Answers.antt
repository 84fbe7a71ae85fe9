use Rattle.memories.proofs.Cells.{changed_same, changed_on_same}
use Rattle.acts.proofs.Turning.{write_done_on}
use Rattle.acts.proofs.act_write.Goals as goal

pub returns : goal.returns
returns c =
    let f = c.fill_on.ensures in
    let g = c.fill_by.ensures in
    let w = rw c.all.ensures at c.written.ensures in
    let p = changed_on_same c.args.on_card f in
    record { acts = λ layout x k σ l h. write_done_on h c.requires.low c.args.on_card x k _ w f g; same = (p.0, p.1, changed_same g) }
