-- Of a file that the judge accepts: demand 3 holds, and, without scratch, the check accepts its expansion and its expansion's file.
use mathlib.Core.Path.{◌≡◌, sym, ◌∙◌}
use mathlib.Core.Bool.{false, true≢false}
use mathlib.Core.List.{List}
use Prim.Native.Nat.{ℕ}
use Rattle.model.specs.Verdicts.{Accepted}
use Rattle.model.specs.Sides.{has_scratch}
use Rattle.model.specs.Check.{Answers}
use Rattle.model.proofs.Stuck.{accepted_iff}
use Rattle.model.proofs.Demand3.{demand3}
use Rattle.reading.specs.Bytes.{layout_of}
use Rattle.format.specs.Plans.{declared_plan_of}
use Rattle.judge.specs.Judged.{judged}
use Rattle.judge.proofs.Rules.{accepted_rules}
use Rattle.files.specs.Expansions.{expansion_of}
use Rattle.circle.specs.Claims.{ClaimFile3, ClaimOpens}
use Rattle.circle.proofs.Opens.{expansion_opens}
use Rattle.expand.proofs.Laws.Answers.{written}

pub file_demand3 : ClaimFile3
file_demand3 f accepted = demand3 (declared_plan_of f) ((accepted_rules f).0 accepted).2

expansion_accepted : (f : List ℕ) → judged f ≡ Accepted → has_scratch (layout_of f) ≡ false → Answers (expansion_of f) Accepted
unfolding declared_plan_of
expansion_accepted f accepted filled = (accepted_iff (expansion_of f)).1 (λ cs. (file_demand3 f accepted cs).never_stuck (λ e. absurd (true≢false (sym e ∙ filled))))

pub written_opens : ClaimOpens
written_opens f out e =
    let (accepted, few, low) = written f out e in
    let (opens, plain, same) = expansion_opens f accepted few low in
    (opens, plain, same, λ filled. rw same (expansion_accepted f accepted filled))
