-- A number that is not reached is as it was, and that of the other set is added to it.
use Rattle.std.proofs.Common.{◌∙◌, ap, rules, arith, take_all}
use lib.ListN.{length-set}
use Rattle.sums.specs.Inner.Columns.{added}
use Rattle.sums.proofs.Added.{still, added_next}
use Rattle.sums.proofs.columns.Bands.add_band.Goals as goal

pub loop-i-init : goal.loop-i-init
unfolding added
loop-i-init c = search rules

pub overflow_add-self : goal.overflow_add-self
overflow_add-self c =
    let l = c.loop-i in
    omega (arith, still _ _ _ l.i l.invariant.behind_so_far, still _ _ _ l.i l.invariant.columns_so_far, c.requires.low.2 l.i, c.requires.low.0 l.i)

pub overflow_add-self-in-loop-i : goal.overflow_add-self-in-loop-i
overflow_add-self-in-loop-i c = omega (arith, still _ _ _ c.loop-i.i c.loop-i.invariant.columns_so_far, c.requires.low.0 c.loop-i.i)

pub overflow_add-self-in-loop-i-2 : goal.overflow_add-self-in-loop-i-2
overflow_add-self-in-loop-i-2 c = omega (arith, still _ _ _ c.loop-i.i c.loop-i.invariant.rows_so_far, c.requires.low.1 c.loop-i.i)

pub loop-i-preserved : goal.loop-i-preserved
loop-i-preserved c =
    let l = c.loop-i in
    let v = l.invariant in
    record {
      sizes = (simp length-set v.sizes.0, simp length-set v.sizes.1, simp length-set v.sizes.2);
      columns_so_far = added_next _ _ _ l.i v.columns_so_far _ c.from.ensures (omega (arith, c.requires.lengths)) (omega (arith, c.requires.more));
      rows_so_far = added_next _ _ _ l.i v.rows_so_far _ c.from-in-loop-i.ensures (omega (arith, c.requires.lengths)) (omega (arith, c.requires.more));
      behind_so_far = added_next _ _ _ l.i v.behind_so_far _ (still _ _ _ l.i v.columns_so_far) (omega (arith, c.requires.lengths)) (omega (arith, c.requires.lengths));
    }

pub returns : goal.returns
returns c =
    let l = c.loop-i in
    let v = l.invariant in
    record {
      columns = v.columns_so_far ∙ ap (added _) (take_all l.i _ (omega (arith, c.requires.more)));
      rows = v.rows_so_far ∙ ap (added _) (take_all l.i _ (omega (arith, c.requires.more)));
      behind = v.behind_so_far ∙ ap (added _) (take_all l.i _ (omega (arith, c.requires.lengths)));
    }
