use mathlib.Core.Path.{sym, ◌∙◌}
use Prim.Native.Nat.{◌%◌}
use lib.Dec.{eqb}
use lib.ListN.{length}
use Rattle.logs.proofs.Rows.{to_hold, answers_refused, answers_held}
use Rattle.logs.proofs.log_opened.Goals as goal

pub hold-requires : goal.hold-requires
hold-requires c = let v = c.args in to_hold v.plan.now (eqb (length v.log.now % 2) 1) _ (sym c.in-Ok.is ∙ c.plan_to_follow.ensures v.plan.now c.requires)

pub returns-in-Ok : goal.returns-in-Ok
returns-in-Ok c = let v = c.args in answers_held v.plan.now v.log.now _ (sym c.in-Ok.is ∙ c.plan_to_follow.ensures v.plan.now c.requires) _ c.hold.ensures

pub returns-in-Err : goal.returns-in-Err
returns-in-Err c = let v = c.args in answers_refused v.plan.now v.log.now _ (sym c.in-Err.is ∙ c.plan_to_follow.ensures v.plan.now c.requires) _ c.unplaced.ensures
