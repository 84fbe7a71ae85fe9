use mathlib.Core.Path.{refl, sym, ◌∙◌}
use mathlib.Core.Bool.{true≢false}
use native.Mathlib.Omega.{arith}
use Rattle.summary.proofs.passed_over.Goals as goal

pub returns-then-again : goal.returns-then-again
returns-then-again c = (omega arith, omega arith, omega arith, λ n. absurd (true≢false (sym c.if-again.true ∙ n)))

pub returns : goal.returns
returns c = (omega arith, omega arith, omega arith, λ n. refl)
