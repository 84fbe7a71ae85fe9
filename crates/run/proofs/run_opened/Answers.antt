use native.Mathlib.Omega.{arith}
use mathlib.Core.Path.{refl}
use Rattle.run.proofs.Begins.{may_run}
use Rattle.run.proofs.Ends.{ran, flags_fit, runs_refused, runs_ran}
use Rattle.run.proofs.run_opened.Goals as goal

pub run_to_end-s-requires : goal.run_to_end-s-requires
run_to_end-s-requires c = may_run _ _ _ _ (c.in-Ok.ensures c.args.tally)

pub end_of-requires : goal.end_of-requires
end_of-requires c = let r = c.run_to_end-s.ensures in let w = r.reaches.reaches.stands in let q = flags_fit w in (omega (arith, w.used, w.many), q.0, q.1)

pub returns-in-Ok : goal.returns-in-Ok
returns-in-Ok c =
    let w = c.run_to_end-s.ensures in
    let held = w.reaches.reaches.stands.holds in
    runs_ran _ _ _ _ (c.in-Ok.ensures _) _ _ (ran _ _ _ _ _ _ _ w.reaches.reaches w.ended _ _ _ _ w.host w.card w.latest _ (c.end_of.ensures _ _ _ held.own_flags held.others_flags))

pub returns-in-Err : goal.returns-in-Err
returns-in-Err c = runs_refused _ _ _ _ (c.in-Err.ensures _) _ refl
