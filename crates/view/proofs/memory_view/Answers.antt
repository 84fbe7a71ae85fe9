-- An accepted view lies inside every memory; the part and its place are those of the side.
use mathlib.Core.Path.{refl, ◌∙◌}
use Rattle.model.proofs.Verdicts.{faulty}
use Rattle.view.proofs.Views.{part_none, part_of, place_of}
use Rattle.view.proofs.memory_view.Goals as goal

pub returns-in-Ok-Host-clause-cells : goal.returns-in-Ok-Host-clause-cells
returns-in-Ok-Host-clause-cells c = rw c.in-Ok-Host.field-0-is at (part_of _ _ _ _ _ _ c.in-Ok-Host.ensures)

pub returns-in-Ok-Host-clause-own : goal.returns-in-Ok-Host-clause-own
returns-in-Ok-Host-clause-own c = λ _. rw c.in-Ok-Host.field-0-is at (place_of _ _ _ _ _ _ c.in-Ok-Host.ensures c.args.host.ref_ptr c.args.card.ref_ptr)

pub returns-in-Ok-Card-clause-cells : goal.returns-in-Ok-Card-clause-cells
returns-in-Ok-Card-clause-cells c = rw c.in-Ok-Card.field-0-is at (part_of _ _ _ _ _ _ c.in-Ok-Card.ensures)

pub returns-in-Ok-Card-clause-own : goal.returns-in-Ok-Card-clause-own
returns-in-Ok-Card-clause-own c = λ _. rw c.in-Ok-Card.field-0-is at (place_of _ _ _ _ _ _ c.in-Ok-Card.ensures c.args.host.ref_ptr c.args.card.ref_ptr)

pub returns-in-Err-clause-cells : goal.returns-in-Err-clause-cells
returns-in-Err-clause-cells c = (part_none _ _ _ _ _ _ c.in-Err.ensures).1

pub returns-in-Err-clause-own : goal.returns-in-Err-clause-own
returns-in-Err-clause-own c = λ a. absurd (faulty refl ((part_none _ _ _ _ _ _ c.in-Err.ensures).0 ∙ a))
