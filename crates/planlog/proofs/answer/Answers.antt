-- `answer` follows the log where nothing is refused before it.
use Rattle.std.proofs.Common.{sym, ◌∙◌, false}
use Rattle.logs.proofs.Rows.{to_hold}
use Rattle.planlog.proofs.answer.Goals as goal

pub log_lines-requires : goal.log_lines-requires
log_lines-requires g c = to_hold _ false _ (sym c.in-Ok.is ∙ c.plan_to_follow.ensures _ c.open-opened.ensures)
