-- `marks::mark_range` marks the cells of a range.
use Rattle.marks.proofs.Marks.{range_none, range_filled}
use Rattle.marks.proofs.mark_range.Goals as goal

pub returns-then-from-end : goal.returns-then-from-end
returns-then-from-end c = range_filled _ c.requires.0 _ _ c.if-from-end.true c.requires.1 _ (c.fill.ensures.after (λ y e. e))

pub returns-else-from-end : goal.returns-else-from-end
returns-else-from-end c = range_none _ c.requires.0 _ _ c.if-from-end.false
