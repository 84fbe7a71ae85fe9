-- `expand::expansion_length` gives the answer of an output that is long enough, and how long that is.
use mathlib.Core.Path.{refl, ◌∙◌}
use native.Mathlib.Omega.{arith}
use Rattle.model.proofs.Verdicts.{faulty, handed}
use Rattle.format.proofs.Walking.{found_is, unopened}
use Rattle.judge.proofs.Laws.Passes.{judged_opening}
use Rattle.expand.proofs.Laws.Answers.{accepted_file, both_passed}
use Rattle.expand.proofs.Laws.Lengths.{no_judgement, no_file, file_length}
use Rattle.expand.proofs.expansion_length.Goals as goal

pub returns-in_err-o : goal.returns-in_err-o
returns-in_err-o c = handed c.from_residual.ensures.1 ∙ no_judgement _ _ (judged_opening _ _ (faulty refl) (unopened _ _ c.in_err-o.ensures))

pub returns-in_err-judge_opened : goal.returns-in_err-judge_opened
returns-in_err-judge_opened c = handed c.from_residual-in_err-judge_opened.ensures.1 ∙ no_judgement _ _ c.in_err-judge_opened.ensures

pub expansion_records-records-requires : goal.expansion_records-records-requires
expansion_records-records-requires c = (accepted_file _ c.in_ok-judge_opened.ensures, found_is _ _ c.in_ok-o.ensures)

pub expansion_tests-requires : goal.expansion_tests-requires
expansion_tests-requires c = (accepted_file _ c.in_ok-judge_opened.ensures, found_is _ _ c.in_ok-o.ensures, c.expansion_records-records.ensures)

pub returns-in_err-expansion_tests : goal.returns-in_err-expansion_tests
returns-in_err-expansion_tests c = handed c.from_residual-in_err-expansion_tests.ensures.1 ∙ no_file _ c.in_ok-judge_opened.ensures _ c.in_err-expansion_tests.ensures

pub file_length-requires : goal.file_length-requires
file_length-requires c = (accepted_file _ c.in_ok-judge_opened.ensures, c.expansion_records-records.ensures, omega (arith, c.expansion_records-records.ensures, (both_passed _ c.in_ok-expansion_tests.ensures).0))

pub returns : goal.returns
returns c = file_length _ c.in_ok-judge_opened.ensures c.in_ok-expansion_tests.ensures _ c.file_length.ensures
