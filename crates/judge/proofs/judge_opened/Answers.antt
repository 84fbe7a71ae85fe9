-- `judge::judge_opened` answers as the definition: opening's answer, 11, then the passes.
use mathlib.Core.Path.{◌≡◌, refl, sym, ap, ◌∙◌}
use mathlib.Core.Bool.{true}
use borrow.Author.Tests.{eq-eqb, ne_eqb}
use Rattle.reading.specs.Bytes.{is_declared}
use Rattle.model.proofs.Verdicts.{faulty, handed}
use Rattle.format.proofs.Walking.{opens, found_is, unopened}
use Rattle.judge.proofs.Laws.Passes.{judged_opening, judged_plain, judged_passes}
use Rattle.judge.proofs.judge_opened.Goals as goal

pub returns-in_err-o : goal.returns-in_err-o
returns-in_err-o c = handed c.from_residual.ensures.1 ∙ judged_opening _ _ (faulty refl) (unopened _ _ (sym c.in_err-o.was ∙ c.requires))

pub returns-then-o-ne-DECLARED : goal.returns-then-o-ne-DECLARED
returns-then-o-ne-DECLARED c =
    let o = sym c.in_ok-o.was ∙ c.requires in
    judged_plain _ (opens _ _ o) (ne_eqb _ 1 (λ k. c.if-o-ne-DECLARED.true (ap (λ o. o.kind) (found_is _ _ o) ∙ k)))

pub all_passes-requires : goal.all_passes-requires
all_passes-requires c =
    let o = sym c.in_ok-o.was ∙ c.requires in
    let declared : is_declared c.args.plan.now ≡ true = eq-eqb _ 1 (sym (ap (λ o. o.kind) (found_is _ _ o)) ∙ c.if-o-ne-DECLARED.false) in
    (opens _ _ o, declared, found_is _ _ o)

pub returns : goal.returns
returns c =
    let o = sym c.in_ok-o.was ∙ c.requires in
    let declared : is_declared c.args.plan.now ≡ true = eq-eqb _ 1 (sym (ap (λ o. o.kind) (found_is _ _ o)) ∙ c.if-o-ne-DECLARED.false) in
    judged_passes _ (opens _ _ o) declared _ c.all_passes.ensures
