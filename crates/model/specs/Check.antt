-- What the check answers (document 01, 'Sides, cells, stamps').
use Rattle.std.specs.Prelude.{ℕ, ◌≤◌, ◌<◌, ◌≡◌, List, Bool, false, Ok, Err}
use Rattle.model.specs.Verdicts.{Verdict}
use Rattle.model.specs.declared.Fault.{Fault}
use Rattle.model.specs.Sides.{cell_count}
use Rattle.model.specs.Records.{Action}
use Rattle.model.specs.Effects.{met}
use Rattle.model.specs.Blocks.{Block, act, Plan}
use Rattle.model.specs.Runs.{Config, carried_on, Run}

-- "an unmet record counts as stopping at each unmet cell": some carried-on run stops at record r in cell c
pub record MayStop (plan : Plan) (r c : ℕ) : Type 0 where
  pub cell : c < cell_count plan.layout
  pub choices : List Bool
  pub config : Config
  pub run : Run carried_on plan choices config
  pub action : Action
  pub rest : Block Action
  pub left : config.left ≡ act r action rest
  pub unmet : met plan.layout action config.state c ≡ false

-- "The named record is the lowest at which some carried-on run stops, and the cell is the lowest that stops there in some run."
abbrev pub Answers : Plan → Verdict → Type 0
Answers plan (Ok _) = (r c : ℕ) → MayStop plan r c → ⊥
Answers plan (Err (Fault.Stopped r c)) =
    MayStop plan r.0 c.0
    × ((r' c' : ℕ) → MayStop plan r' c' → r.0 ≤ r')
    × ((c' : ℕ) → MayStop plan r.0 c' → c.0 ≤ c')
Answers plan (Err (Fault.Refused number place)) = ⊥
