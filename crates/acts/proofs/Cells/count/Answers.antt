use native.Mathlib.Omega.{arith}
use Rattle.memories.proofs.Cells.{distance_each, distance_more}
use Rattle.acts.proofs.Stale.{each_counted, few_between}
use Rattle.acts.proofs.Cells.count.Goals as goal

pub returns-then-self-le1 : goal.returns-then-self-le1
returns-then-self-le1 c = record { count = each_counted _ _ _ (distance_each _ c.if-self-le1.true); few = omega arith }

pub returns : goal.returns
returns c = record { count = rw (distance_more _ c.if-self-le1.false); few = few_between _ _ _ (omega arith) c.requires.2 }
