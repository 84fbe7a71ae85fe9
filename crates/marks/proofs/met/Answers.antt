-- `marks::met` says whether a declaration is met: one that is no W, or a W of an array whose cells are all marked.
use Rattle.marks.proofs.Marks.{met_other, met_w}
use Rattle.marks.proofs.met.Goals as goal

pub returns-then-x-ne-W : goal.returns-then-x-ne-W
returns-then-x-ne-W c = met_other _ _ _ c.if-x-ne-W.true

pub returns : goal.returns
returns c = met_w _ _ _ c.if-x-ne-W.false _ c.all_marked.ensures
