-- `report_of` reports the run of a plan on the program's memories.
use Rattle.std.proofs.Common.{ap, ◌∙◌, arith}
use Rattle.model.specs.Verdicts.{values_of}
use Rattle.run.specs.Running.{lent}
use Rattle.run.proofs.Ends.{verdict_mapped}
use Rattle.report.specs.Reports.{nothing}
use Rattle.report.proofs.Rooms.{roomy}
use Rattle.report.proofs.report_of.Goals as goal

pub returns : goal.returns
returns c =
    let u = c.args in
    record {
      answer = c.run-counted.result.end;
      runs = c.run-counted.ensures;
      roomy = roomy u.plan.now (lent u.host.now u.card.now u.latest.now nothing) (omega arith) (omega arith) (omega arith);
      values = c.values_of.ensures ∙ ap (values_of 21) (verdict_mapped c.run-counted.result.end c.map.result _ c.map.ensures.cases);
      ending = c.ending_of.ensures;
    }
