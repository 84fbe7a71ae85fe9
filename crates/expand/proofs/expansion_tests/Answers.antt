-- `expand::expansion_tests` answers 16 and 26.
use native.Mathlib.Omega.{arith}
use Rattle.expand.proofs.Laws.Answers.{calls_tested}
use Rattle.expand.proofs.expansion_tests.Goals as goal

pub all_calls-requires : goal.all_calls-requires
all_calls-requires c = (c.requires.0, c.requires.1)

pub returns : goal.returns
returns c = calls_tested _ (omega (arith, c.requires.2)) _ c.all_calls.ensures
