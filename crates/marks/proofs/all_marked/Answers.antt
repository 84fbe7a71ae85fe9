-- `marks::all_marked` says whether all cells of a range are marked.
use mathlib.Core.Path.{sym, ◌∙◌}
use native.Mathlib.Omega.{arith}
use borrow.Author.Tests.{le-leb}
use Rattle.std.proofs.Common.{rules}
use Rattle.std.proofs.lemmas.Iterator.{YieldsList-from_slice}
use Rattle.std.proofs.lemmas.Iterator.Search.{all_from_yields_List}
use Rattle.marks.proofs.Marks.{all_between, all_end}
use Rattle.marks.proofs.all_marked.Goals as goal

pub returns-then-from-end : goal.returns-then-from-end
returns-then-from-end c = le-leb _ _ c.if-from-end.true ∙ sym (all_end _ _ _ c.if-from-end.true)

pub returns-else-from-end : goal.returns-else-from-end
returns-else-from-end c =
    all_from_yields_List (λ b. b) _ _ _ c.all.ensures.ran (YieldsList-from_slice _ c.iter.ensures.rest) (λ x b q k. search rules)
    ∙ sym (all_between _ _ _ (omega arith))
