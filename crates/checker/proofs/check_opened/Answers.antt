use mathlib.Core.Path.{◌≡◌, sym, ap, ◌∙◌}
use borrow.Author.Tests.{eq-eqb}
use Rattle.std.specs.Prelude.{Ok}
use Rattle.reading.specs.Bytes.{kind_of}
use Rattle.format.specs.Opening.{opened}
use Rattle.format.proofs.Walking.{opens, found_is, array_start, opened_facts}
use Rattle.checker.proofs.check_opened.Goals as goal

pub answer-requires : goal.answer-requires
answer-requires c =
    let is : Ok c.in_ok-o.o ≡ opened c.args.plan.now = sym c.in_ok-o.was ∙ c.requires in
    let o = opens _ _ is in
    let e = found_is _ _ is in
    let kind_is : c.in_ok-o.o.kind ≡ kind_of c.args.plan.now = ap (λ x. x.kind) e in (
      record {
        plain = record { opens = o; plain = eq-eqb _ 2 (sym kind_is ∙ c.if-o-ne-PLAIN.false); place = ap (λ x. x.offset) e };
        counted = ap (λ x. x.records) e;
      },
      ap (λ x. x.arrays) e,
      record { first = array_start _ _ e (opened_facts _ o).bounds },
    )
