-- What is proved of what the expander writes: each theorem that a reader relies on, by name, with the place of its proof.
use Rattle.std.specs.Prelude.{ℕ, ◌≡◌, Bool, true, false, List, Result}
use Rattle.model.specs.Verdicts.{Accepted}
use Rattle.model.specs.declared.Fault.{Fault}
use Rattle.model.specs.declared.End.{End}
use Rattle.model.specs.Sides.{has_scratch}
use Rattle.model.specs.Check.{Answers}
use Rattle.model.specs.Demand.{Demand3}
use Rattle.reading.specs.Bytes.{is_plain, layout_of}
use Rattle.format.specs.Opening.{opening}
use Rattle.format.specs.Plans.{plan_of, declared_plan_of}
use Rattle.judge.specs.Judged.{judged}
use Rattle.files.specs.Expansions.{expansion_of, expansion_file}
use Rattle.expand.specs.Expanded.{expand_answer}
use Rattle.run.specs.Running.{Lent, Runs}
use Rattle.circle.specs.Closing.{ExpansionRun}

-- CLAIM (proofs/Runs, `file_demand3`): demand 3 holds of every file that the judge accepts, on every list of choices
abbrev pub ClaimFile3 : Type 0
ClaimFile3 = (f : List ℕ) → judged f ≡ Accepted → (cs : List Bool) → Demand3 (declared_plan_of f) cs

-- CLAIM (proofs/Runs, `written_opens`): what the expander writes opens as a plain plan, which is the expansion, and which the check accepts
-- where it has no scratch
abbrev pub ClaimOpens : Type 0
ClaimOpens = (f out : List ℕ) → expand_answer f out ≡ Accepted →
    (opening (expansion_file f) ≡ Accepted)
    × (is_plain (expansion_file f) ≡ true)
    × (plan_of (expansion_file f) ≡ expansion_of f)
    × (has_scratch (layout_of f) ≡ false → Answers (plan_of (expansion_file f)) Accepted)

-- CLAIM (proofs/Closing, `closed`): and no run of it is stopped, whatever the choices and the lent memories, where it has no scratch or
-- passes the check
abbrev pub ClaimRuns : Type 0
ClaimRuns = (f out : List ℕ) → expand_answer f out ≡ Accepted →
    (choices : List ℕ) (before after : Lent) (answer : Result End Fault) → Runs (expansion_file f) choices before after answer →
    ExpansionRun f choices before after answer
