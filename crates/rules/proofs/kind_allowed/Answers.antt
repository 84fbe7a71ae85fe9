use mathlib.Core.Path.{sym, ◌∙◌}
use borrow.Author.Tests.{lt-ltb, le-ltb, eq-eqb, ne_eqb}
use Rattle.rules.specs.Rules.{allowed}
use Rattle.rules.proofs.kind_allowed.Goals as goal

pub returns-then-header_byte-eq-PLAIN : goal.returns-then-header_byte-eq-PLAIN
unfolding allowed
returns-then-header_byte-eq-PLAIN c = c.acts_or_nests.ensures ∙ simp (eq-eqb _ _ (sym c.header_byte.ensures ∙ c.if-header_byte-eq-PLAIN.true))

pub returns-then-body-eq0 : goal.returns-then-body-eq0
unfolding allowed
returns-then-body-eq0 c = simp (ne_eqb _ _ (λ e. c.if-header_byte-eq-PLAIN.false (c.header_byte.ensures ∙ e)), eq-eqb _ _ c.if-body-eq0.true)

pub returns-then-r-until : goal.returns-then-r-until
unfolding allowed
returns-then-r-until c = simp (ne_eqb _ _ (λ e. c.if-header_byte-eq-PLAIN.false (c.header_byte.ensures ∙ e)), ne_eqb _ _ c.if-body-eq0.false, lt-ltb _ _ (rw c.requires.1 at c.if-r-until.true))

pub returns : goal.returns
unfolding allowed
returns c = c.acts_or_nests-2.ensures ∙ simp (ne_eqb _ _ (λ e. c.if-header_byte-eq-PLAIN.false (c.header_byte.ensures ∙ e)), ne_eqb _ _ c.if-body-eq0.false, le-ltb _ _ (rw c.requires.1 at c.if-r-until.false))
