-- `open_with`: where the body view accepts, the plan has the body.
use Rattle.std.proofs.Common.{◌≡◌, ◌<◌, IfOk, Ok, ℕ, List}
use Rattle.std.specs.Prelude.{Result, Err}
use Rattle.model.specs.declared.Fault.{Fault}
use Rattle.contents.specs.declared.Opened.{Opened}
use Rattle.reading.specs.Bytes.{body_count}
use Rattle.format.specs.Opening.{opened}
use Rattle.listing.proofs.Found.{viewed_body}
use Rattle.planlist.proofs.open_with.Goals as goal

both : (f : List ℕ) (b : ℕ) (r : Result Opened Fault) → b < body_count f → r ≡ opened f → IfOk r (λ o. (Ok o ≡ opened f) × (b < body_count f))
both f b (Ok o) l e = (e, l)
both f b (Err e) l h = tt

pub returns : goal.returns
returns c = both _ _ _ (viewed_body _ _ c.in_ok-body_view_answer.ensures).1 c.open.ensures
