-- `judge::judge_pass` answers 12 to 14 by record, then 15, of one pass.
use mathlib.Core.Path.{refl, ◌∙◌}
use Rattle.model.proofs.Verdicts.{faulty, handed}
use Rattle.permits.proofs.ByArray.{tables}
use Rattle.judge.proofs.Laws.Passes.{pass_twice, pass_used, pass_unmet}
use Rattle.judge.proofs.judge_pass.Goals as goal

pub returns-in_err-declared : goal.returns-in_err-declared
returns-in_err-declared c = handed c.from_residual.ensures.1 ∙ pass_twice _ _ c.requires.0 _ (faulty refl) c.in_err-declared.ensures.refused

pub uses-requires : goal.uses-requires
uses-requires c = (c.requires.0, c.in_ok-declared.ensures.found)

pub returns-in_err-uses : goal.returns-in_err-uses
returns-in_err-uses c = handed c.from_residual-in_err-uses.ensures.1 ∙ pass_used _ _ c.requires.0 _ (faulty refl) c.in_err-uses.ensures

pub unmet-requires : goal.unmet-requires
unmet-requires c =
    let w = c.requires in
    let b = c.in_ok-declared.ensures.found in
    (w.0, b, tables _ _ w.0 _ b _ w.1)

pub returns : goal.returns
returns c = pass_unmet _ _ c.requires.0 _ c.in_ok-uses.ensures c.unmet.ensures
