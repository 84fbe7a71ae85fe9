use Rattle.steps.proofs.first_machine.Goals as goal

pub returns : goal.returns
returns c = rw (c.first.ensures, c.at_start.ensures)
