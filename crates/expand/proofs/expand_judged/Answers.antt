-- `expand::expand_judged` answers what the expander answers, and writes the expansion's file where it accepts.
use mathlib.Core.Path.{◌≡◌, refl, sym, ◌∙◌}
use Rattle.model.specs.Verdicts.{Accepted}
use Rattle.model.proofs.Verdicts.{faulty, handed}
use Rattle.format.proofs.Walking.{found_is, unopened}
use Rattle.judge.specs.Judged.{judged}
use Rattle.judge.proofs.Laws.Passes.{judged_opening}
use Rattle.expand.proofs.Laws.Answers.{accepted_file, judge_refuses}
use Rattle.expand.proofs.expand_judged.Goals as goal

pub returns-in_err-o : goal.returns-in_err-o
returns-in_err-o c =
    let w = judge_refuses c.args.plan.now c.args.out.now _ (faulty refl) (judged_opening _ _ (faulty refl) (unopened _ _ (sym c.in_err-o.was ∙ c.requires.0))) in
    record { answer = handed c.from_residual.ensures.1 ∙ w.0; output = w.1 }

pub returns-in_err-answer : goal.returns-in_err-answer
returns-in_err-answer c =
    let w = judge_refuses c.args.plan.now c.args.out.now _ (faulty refl) (sym c.in_err-answer.was ∙ c.requires.1) in
    record { answer = handed c.from_residual-in_err-answer.ensures.1 ∙ w.0; output = w.1 }

pub places-places-requires : goal.places-places-requires
places-places-requires c =
    let accepted : Accepted ≡ judged c.args.plan.now = sym c.in_ok-answer.was ∙ c.requires.1 in
    (accepted_file _ accepted, found_is _ _ (sym c.in_ok-o.was ∙ c.requires.0))

pub expand_placed-requires : goal.expand_placed-requires
expand_placed-requires c =
    let accepted : Accepted ≡ judged c.args.plan.now = sym c.in_ok-answer.was ∙ c.requires.1 in
    (accepted, found_is _ _ (sym c.in_ok-o.was ∙ c.requires.0), c.places-places.ensures)
