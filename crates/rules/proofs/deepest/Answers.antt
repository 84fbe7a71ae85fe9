use mathlib.Core.Path.{sym, ◌∙◌}
use borrow.Author.Tests.{eq-eqb, ne_eqb}
use Rattle.rules.specs.Rules.{deepest}
use Rattle.rules.proofs.deepest.Goals as goal

pub returns-then-header_byte-eq-PLAIN : goal.returns-then-header_byte-eq-PLAIN
unfolding deepest
returns-then-header_byte-eq-PLAIN c = simp (eq-eqb _ _ (sym c.header_byte.ensures ∙ c.if-header_byte-eq-PLAIN.true))

pub returns-else-header_byte-eq-PLAIN : goal.returns-else-header_byte-eq-PLAIN
unfolding deepest
returns-else-header_byte-eq-PLAIN c = simp (ne_eqb _ _ (λ e. c.if-header_byte-eq-PLAIN.false (c.header_byte.ensures ∙ e)))
