-- A column that is not reached is as it was, and the next byte is added to it.
use Rattle.std.proofs.Common.{◌∙◌, refl, ap, arith, rules, take_all}
use lib.ListN.{length-set}
use Rattle.sums.specs.Inner.Columns.{added}
use Rattle.sums.proofs.Added.{still, added_next}
use Rattle.sums.proofs.columns.add_row.Goals as goal

pub loop-i-init : goal.loop-i-init
unfolding added
loop-i-init c = search rules

pub overflow_add-columns : goal.overflow_add-columns
overflow_add-columns c = omega (arith, still _ _ _ c.loop-i.i c.loop-i.invariant.so_far, c.requires.1 c.loop-i.i)

pub loop-i-preserved : goal.loop-i-preserved
loop-i-preserved c =
    let l = c.loop-i in
    record {
      size = simp length-set l.invariant.size;
      so_far = added_next _ _ _ l.i l.invariant.so_far _ c.from.ensures (omega arith) (omega arith);
    }
