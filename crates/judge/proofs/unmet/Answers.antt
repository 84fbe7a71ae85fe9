-- `judge::unmet` answers number 15 of a pass.
use native.Mathlib.Omega.{arith}
use Rattle.passes.proofs.Records.{declared_low, records_low, records_inside, others_walk}
use Rattle.marks.proofs.Marks.{length_none}
use Rattle.judge.proofs.Laws.Written.{decides}
use Rattle.judge.proofs.unmet.Goals as goal

pub overflow_add-e : goal.overflow_add-e
overflow_add-e c = let p = c.requires.0 in omega (arith, records_low _ _ p, declared_low _ _ p)

pub overflow_add-e-2 : goal.overflow_add-e-2
overflow_add-e-2 c = omega (arith, records_low _ _ c.requires.0)

pub mark_written-requires : goal.mark_written-requires
mark_written-requires c = let w = c.requires in (length_none, w.2, omega (arith, declared_low _ _ w.0), records_low _ _ w.0, records_inside _ _ w.0, others_walk _ _ w.0)

pub first_unmet-requires : goal.first_unmet-requires
first_unmet-requires c = let w = c.requires in (w.0, decides _ _ w.0 _ w.1 _ w.2 _ c.mark_written.ensures)

pub returns : goal.returns
returns c = c.first_unmet.ensures
