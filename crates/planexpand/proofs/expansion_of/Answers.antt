-- `expansion_of` gives the expander's answer, its output, and how many bytes of that are the expansion's file.
use Rattle.std.proofs.Common.{ap, arith, ◌∙◌}
use Rattle.std.specs.Result.{result_unwrap_or}
use Rattle.format.specs.Opening.{kind_of_opened}
use Rattle.planexpand.proofs.Rooms.{roomy, written_out}
use Rattle.planexpand.proofs.expansion_of.Goals as goal

pub returns : goal.returns
returns c =
    let x = c.expand-answer.ensures in
    let size = c.unwrap_or-length.ensures ∙ ap (λ r. result_unwrap_or r 0) c.expansion_length.ensures in
    let w = written_out c.args.plan.now c.args.out.now (omega arith) _ size in
    record {
      kind = c.opened_kind-kind.ensures ∙ ap kind_of_opened c.open-o.ensures;
      values = rw x.answer at c.values_of.ensures;
      roomy = roomy _ _ (omega arith);
      output = x.output;
      size = rw x.output w.0;
      writes = rw x.output w.1;
    }
