-- Runs of a plan on a list of choices (document 01, 'Sides, cells, stamps', 'Running and viewing' and 'The words of demand 3'; document
-- 02, request a).
use Rattle.std.specs.Prelude.{ℕ, zero, suc, ◌≡◌, List, [], ◌∷◌, Bool, cond}
use Rattle.std.proofs.Math.Option.{Option, none, some}
use Rattle.model.specs.declared.Tally.{Tally}
use Rattle.model.specs.Sides.{Layout, cell_count}
use Rattle.model.specs.Records.{Action, cover_count}
use Rattle.model.specs.Effects.{State, Deed, start, counted, deed, met, effect}
use Rattle.model.specs.Blocks.{Block, done, act, branch, loop, fixed, ◌then◌, Plan}

-- an executed record: its number, what it is, and what it came to
pub record Event : Type 0 where
  pub number : ℕ
  pub action : Action
  pub deed : Deed

-- where a run stands: what is left, the choices left (true: "first arm or one more turn"), the state,
-- and the records executed so far, the last one first
pub record Config : Type 0 where
  pub left : Block Action
  pub choices : List Bool
  pub state : State
  pub history : List Event

-- "finished when no record is left, stopped at a stuck record (one whose need is unmet), or out of choices":
-- the record and its lowest unmet cell, the record whose test finds no choice
pub data Ending : Type 0 where
  finished : Ending
  stopped : ℕ → ℕ → Ending
  out_of_choices : ℕ → Ending

-- a step leads on, or the run ends there
pub data Step : Type 0 where
  next : Config → Step
  ends : Ending → Step

-- "a run proper" stops at an unmet record; "For the check's answer a run is carried on"
pub data Manner : Type 0 where
  proper carried_on : Manner

-- the lowest of n cells, from cell c on, in which the need of a record is unmet
abbrev pub unmet_from : Layout → Action → State → ℕ → ℕ → Option ℕ
unmet_from layout x σ c zero = none
unmet_from layout x σ c (suc n) = cond (met layout x σ c) (unmet_from layout x σ (suc c) n) (some c)

-- the lowest of all cells in which the need of a record is unmet, if there is one
abbrev pub lowest_unmet : Layout → Action → State → Option ℕ
lowest_unmet layout x σ = unmet_from layout x σ 0 (cell_count layout)

-- the cell at which a run stops at a record, if there is one
abbrev pub stops_in : Manner → Layout → Action → State → Option ℕ
-- "A run stops at a record whose need is unmet; that record then changes nothing."
stops_in proper layout x σ = lowest_unmet layout x σ
-- "an unmet record .. acts all the same"
stops_in carried_on layout x σ = none

-- a stop at record r if there is such a cell, and else what follows
abbrev pub stop_or : ℕ → Option ℕ → Step → Step
stop_or r none follows = follows
stop_or r (some c) follows = ends (stopped r c)

-- one step: a record is executed, a branch or loop tested ("Each branch and each test of a loop takes one" choice), or a turn of a fixed
-- loop begun
abbrev pub step : Manner → Layout → Config → Step
step manner layout k = go k.left k.choices
  where
    to : Block Action → List Bool → State → List Event → Step
    to b cs σ l = next (record { left = b; choices = cs; state = σ; history = l })

    go : Block Action → List Bool → Step
    go done cs = ends finished
    go (act r x b) cs =
        let event : Event = record { number = r; action = x; deed = deed x k.state } in
        stop_or r (stops_in manner layout x k.state) (to b cs (effect layout x k.state) (event ∷ k.history))
    go (branch r x y b) [] = ends (out_of_choices r)
    go (branch r x y b) (c ∷ cs) = to (cond c x y then b) cs k.state k.history
    go (loop r x b) [] = ends (out_of_choices r)
    go (loop r x b) (c ∷ cs) = to (cond c (x then loop r x b) b) cs k.state k.history
    -- a turn, "taking no choice": the last one, or one with more to come
    go (fixed r zero x b) cs = to (x then b) cs k.state k.history
    go (fixed r (suc n) x b) cs = to (x then fixed r n x b) cs k.state k.history

-- "It begins at the start"
abbrev pub begin : Plan → List Bool → Config
begin plan cs = record { left = plan.body; choices = cs; state = start plan.layout; history = [] }

-- where steps of one kind lead from a configuration
pub data Reached (one : Config → Step) (from : Config) : Config → Type 0 where
  here : Reached one from from
  onward : {k k' : Config} → Reached one from k → one k ≡ next k' → Reached one from k'

-- the run of a plan on a list of choices: the configurations that it reaches. Their states are the moments:
-- "the start and the state after each executed record" (a test of a branch or loop, or a turn of a fixed loop, leaves the state as it is)
abbrev pub Run : Manner → Plan → List Bool → Config → Type 0
Run manner plan cs k = Reached (step manner plan.layout) (begin plan cs) k

-- the run proper ends at configuration k, in this way
pub record Ends (plan : Plan) (cs : List Bool) (k : Config) (e : Ending) : Type 0 where
  pub run : Run proper plan cs k
  pub last : step proper plan.layout k ≡ ends e

-- the tally of a history: "read records, write records, cells moved, from zero"; "A copy moves all its cells, a need that copies the whole
-- array."
abbrev pub tally : Layout → List Event → Tally
tally layout [] = record { reads = 0; writes = 0; moved = 0 }
tally layout (e ∷ l) = counted e.deed (cover_count layout e.action) (tally layout l)
