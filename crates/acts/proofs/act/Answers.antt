use mathlib.Core.Bool.{◌&&◌}
use lib.Dec.{leb}
use Rattle.std.proofs.Common.{Ok}
use Rattle.model.specs.Records.{distance}
use Rattle.memories.proofs.Cells.{same_all}
use Rattle.acts.proofs.Turning.{here_read, here_write, here_move, here_mark}
use Rattle.acts.proofs.act.Goals as goal

pub returns-in-1 : goal.returns-in-1
returns-in-1 c =
    let a = c.args in
    record { follows = here_read a.x (a.whole && leb a.x.step 1) (distance a.x.step) a.from a.to a.s a.host.now a.card.now a.latest.now c.act_read.result c.in-1.is c.act_read.ensures; host = same_all _ _; card = same_all _ _; latest = same_all _ _ }

pub returns-in-2 : goal.returns-in-2
returns-in-2 c =
    let a = c.args in
    let w = c.act_write in
    let p = w.ensures.same in
    record { follows = here_write a.x (a.whole && leb a.x.step 1) (distance a.x.step) a.from a.to a.s a.host.now a.card.now a.latest.now (Ok w.result) c.in-2.is _ _ _ w.ensures.acts; host = p.0; card = p.1; latest = p.2 }

pub returns-in-5 : goal.returns-in-5
returns-in-5 c =
    let a = c.args in
    record { follows = here_mark a.x (a.whole && leb a.x.step 1) (distance a.x.step) a.from a.to a.s a.host.now a.card.now a.latest.now (Ok c.marked.result) c.in-5.is c.marked.ensures; host = same_all _ _; card = same_all _ _; latest = same_all _ _ }

pub returns-in_default : goal.returns-in_default
returns-in_default c =
    let a = c.args in
    let w = c.act_move in
    let n = c.in_default.in_default-own.rest in
    let p = w.ensures.same in
    record { follows = here_move a.x (a.whole && leb a.x.step 1) (distance a.x.step) a.from a.to a.s a.host.now a.card.now a.latest.now w.result (c.requires.2, c.requires.3) n.0.0.1 n.0.1 n.1 _ _ w.ensures.copies w.ensures.needed; host = p.0; card = p.1; latest = same_all _ _ }
