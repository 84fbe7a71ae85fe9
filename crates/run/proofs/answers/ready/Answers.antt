use mathlib.Core.Path.{sym, ◌∙◌}
use native.Mathlib.Omega.{arith}
use Rattle.run.proofs.Begins.{ready_short, ready_many, ready_none}
use Rattle.run.proofs.answers.ready.Goals as goal

pub returns-then-host-n : goal.returns-then-host-n
returns-then-host-n c t = ready_short _ _ _ _ (sym c.in_ok-o.was ∙ c.requires) (omega (arith, c.if-o-ne-PLAIN.false)) c.if-host-n.true

pub returns-then-choices-gt-CHOICES : goal.returns-then-choices-gt-CHOICES
returns-then-choices-gt-CHOICES c t = ready_many _ _ _ _ (sym c.in_ok-o.was ∙ c.requires) (omega (arith, c.if-o-ne-PLAIN.false)) c.if-host-n.false c.if-choices-gt-CHOICES.true

pub returns : goal.returns
returns c t = ready_none _ _ _ _ (sym c.in_ok-o.was ∙ c.requires) (omega (arith, c.if-o-ne-PLAIN.false)) c.if-host-n.false (omega (arith, c.if-choices-gt-CHOICES.false))
