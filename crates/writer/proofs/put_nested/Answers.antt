-- `writer::put_nested` writes a branch or a loop with its arm counts grown to fit.
use mathlib.Core.Path.{◌∙◌}
use native.Mathlib.Omega.{arith}
use Rattle.writer.specs.Inner.Pieces.{nested}
use Rattle.writer.proofs.put_nested.Goals as goal

pub overflow_add-r : goal.overflow_add-r
overflow_add-r c = record { fits = omega (arith, c.requires.0.inside) }

pub grown-p-requires : goal.grown-p-requires
grown-p-requires c = let a = c.requires.0 in rw c.first_arm.ensures.arm (omega (arith, a.inside), a.one_rises, omega (arith, a.two_rises, a.low))

pub second_field-q-requires : goal.second_field-q-requires
second_field-q-requires c = c.requires.0

pub put_record-requires : goal.put_record-requires
put_record-requires c = c.requires.1

pub returns : goal.returns
unfolding nested
returns c = c.put_record.ensures ∙ rw (c.grown-p.ensures, c.second_field-q.ensures, c.first_arm.ensures.arm)
