-- `answer`: where the sheet is accepted, n is at most 24, and the sheet has n + 1 figures.
use Rattle.std.proofs.Common.{sym, arith}
use lib.Seq.{length-take-le}
use Rattle.sheet.proofs.Filling.{answered}
use Rattle.plansheet.proofs.answer.Goals as goal

pub overflow_add-figures : goal.overflow_add-figures
overflow_add-figures c = omega (arith, answered _ c.in-Ok.ensures.answer)

pub slice_bounds-figures-end : goal.slice_bounds-figures-end
slice_bounds-figures-end c = omega (arith, c.sheet.array_long, answered _ c.in-Ok.ensures.answer)

pub slice_bounds-print_line-end : goal.slice_bounds-print_line-end
slice_bounds-print_line-end c =
    let small = answered _ c.in-Ok.ensures.answer in
    sym (length-take-le _ _ (omega (arith, c.sheet.array_long, small)))
