-- The test for 23 is that of the rows, and where it fails the range lies inside every memory.
use Rattle.std.proofs.Common.{◌∙◌, sym}
use Rattle.view.proofs.Views.{view_outside, view_host, view_card, view_stale}
use Rattle.view.proofs.memory_side.Goals as goal

pub returns-then-end-first : goal.returns-then-end-first
returns-then-end-first c =
    let shortest = rw c.min.ensures at c.min-shortest.ensures in
    view_outside _ _ _ _ _ (rw shortest at c.if-end-first.true)

pub returns-then-all_current : goal.returns-then-all_current
returns-then-all_current c =
    let shortest = rw c.min.ensures at c.min-shortest.ensures in
    view_host _ _ _ _ _ (rw shortest at c.if-end-first.false) (sym c.all_current.ensures ∙ c.if-all_current.true)

pub returns-then-all_current-2 : goal.returns-then-all_current-2
returns-then-all_current-2 c =
    let shortest = rw c.min.ensures at c.min-shortest.ensures in
    view_card _ _ _ _ _ (rw shortest at c.if-end-first.false) (sym c.all_current.ensures ∙ c.if-all_current.false) (sym c.all_current-2.ensures ∙ c.if-all_current-2.true)

pub returns : goal.returns
returns c =
    let shortest = rw c.min.ensures at c.min-shortest.ensures in
    view_stale _ _ _ _ _ (rw shortest at c.if-end-first.false) (sym c.all_current.ensures ∙ c.if-all_current.false) (sym c.all_current-2.ensures ∙ c.if-all_current-2.false)
