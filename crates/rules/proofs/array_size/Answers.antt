use mathlib.Core.Path.{ap, ◌∙◌}
use native.Mathlib.Omega.{arith}
use Rattle.reading.specs.Bytes.{length_at, entry_at}
use Rattle.rules.proofs.array_size.Goals as goal

pub length_at-requires : goal.length_at-requires
unfolding entry_at
length_at-requires c = omega arith

pub returns-then-a-arrays : goal.returns-then-a-arrays
returns-then-a-arrays c = λ h. c.length_at.ensures ∙ ap (length_at c.args.plan.now) c.from.ensures
