use mathlib.Core.Path.{◌∙◌}
use Rattle.model.proofs.Verdicts.{handed}
use Rattle.view.proofs.Views.{part_none, accepts}
use Rattle.view.proofs.memory_view_answer.Goals as goal

pub returns-in_err-memory_side : goal.returns-in_err-memory_side
returns-in_err-memory_side c = handed c.from_residual.ensures.1 ∙ (part_none _ _ _ _ _ _ c.in_err-memory_side.ensures).0

pub returns : goal.returns
returns c = accepts _ _ _ _ _ _ c.in_ok-memory_side.ensures
