-- The run of what the expander writes (document 01, demand 3 from bytes to bytes; document 02, request f).
use Rattle.std.specs.Prelude.{ℕ, ◌≤◌, ◌<◌, ◌≡◌, ◌⊎◌, true, List, length, get_or, Result}
use Rattle.model.specs.Verdicts.{Verdict, Accepted, Stopped, Refused}
use Rattle.model.specs.declared.Record.{Record}
use Rattle.model.specs.declared.Cell.{Cell}
use Rattle.model.specs.Sides.{cell_count, scratch_cell}
use Rattle.model.specs.Runs.{Config, Ending, finished, Ends, tally}
use Rattle.model.specs.Demand.{events_of, ExactMoves, ScratchPasses}
use Rattle.reading.specs.Bytes.{layout_of}
use Rattle.format.specs.Plans.{declared_plan_of}
use Rattle.files.specs.Expansions.{expansion_of}
use Rattle.model.specs.declared.Fault.{Fault}
use Rattle.model.specs.declared.End.{End}
use Rattle.run.specs.Running.{Lent, Roomy, holding, verdict_of}
use Rattle.standing.specs.Choices.{choices_of}

-- of a run that is done: its moves are those of demand 3, and the tally counts the cells that they come to
pub record Adds (f choices : List ℕ) (after : Lent) : Type 0 where
  pub config : Config
  pub ends : Ends (expansion_of f) (choices_of choices) config finished
  pub exact : ExactMoves (declared_plan_of f) (choices_of choices) config
  pub adds : after.tally.moved ≡ (tally (layout_of f) (events_of exact.made)).moved

-- done, or "22 choices spent (record)"
abbrev pub DoneOrSpent : Verdict → Type 0
DoneOrSpent v = (v ≡ Accepted) ⊎ ((r : ℕ) × (v ≡ Refused 22 r))

-- of a run that is done or out of choices (its reads: `ClaimFile3`)
pub record Kept (f choices : List ℕ) (before after : Lent) : Type 0 where
  -- memories and tally hold the state in which the run of the expansion ends
  pub config : Config
  pub ending : Ending
  pub ends : Ends (expansion_of f) (choices_of choices) config ending
  pub holds : after ≡ holding (layout_of f) config before
  -- each cell of the lent memories is current on some side; of scratch "from the cell's first write": before any, latest is 0
  pub side_current : (c : ℕ) → c < cell_count (layout_of f) →
      (scratch_cell (layout_of f) c ≡ true → get_or after.latest c 0 ≡ 0 → ⊥) →
      (get_or after.host c 0 ≡ get_or after.latest c 0) ⊎ (get_or after.card c 0 ≡ get_or after.latest c 0)

-- what is claimed of a run of the expansion's file, whatever the choices and the lent memories
pub record ExpansionRun (f choices : List ℕ) (before after : Lent) (answer : Result End Fault) : Type 0 where
  -- no stop: the answer is never 21; "Plans with such an array are free from stops if their expansion passes the check."
  pub unstopped : ScratchPasses (declared_plan_of f) → (r : Record) (c : Cell) → verdict_of answer ≡ Stopped r c → ⊥
  -- where 19 and 20 do not hold, the run is done or out of choices
  pub ended : ScratchPasses (declared_plan_of f) → Roomy (cell_count (layout_of f)) before → length choices ≤ 65536 → DoneOrSpent (verdict_of answer)
  pub kept : DoneOrSpent (verdict_of answer) → Kept f choices before after
  pub done : verdict_of answer ≡ Accepted → Adds f choices after
