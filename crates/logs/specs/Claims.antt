-- What is proved of logs, besides the contract of `log`.
use Rattle.std.specs.Prelude.{ℕ, ◌≡◌, Bool, List, ◌↔◌}
use Rattle.model.specs.Verdicts.{Accepted}
use Rattle.model.specs.Blocks.{Plan}
use Rattle.model.specs.Check as check
use Rattle.model.specs.Runs.{Config, Manner, Run, begin}
use Rattle.logs.specs.declared.Logged.{Logged}
use Rattle.logs.specs.Logs.{Logs, Stuck}
use Rattle.logs.specs.Logged.{Answers}

-- CLAIM (proofs/Unique, `one_answer`): to a plan file and a log there is at most one answer (that there is one is the promise of `log`)
abbrev pub ClaimAnswer : Type 0
ClaimAnswer = (f log : List ℕ) (r s : Logged) → Answers f log r → Answers f log s → r ≡ s

-- CLAIM (proofs/Logging, `every_run`): whatever a run comes to has its log, and only what a run comes to has one
abbrev pub ClaimRuns : Type 0
ClaimRuns = (manner : Manner) (plan : Plan) (cs : List Bool) (k : Config) →
    Run manner plan cs k ↔ ((log : List ℕ) × Logs manner plan.layout (begin plan cs) log k)

-- CLAIM (proofs/Logging, `none_stuck`): of a plan that the check accepts, no entry of a log is stuck
abbrev pub ClaimChecked : Type 0
ClaimChecked = (plan : Plan) → check.Answers plan Accepted → (log : List ℕ) (i : ℕ) → Stuck plan log i → ⊥
