-- Logs of runs, and what is said of a log held against a plan (document 02, request i). A log is a list of record numbers.
use Rattle.std.specs.Prelude.{ℕ, suc, ◌<◌, ◌≡◌, List, [], ◌∷◌, Bool, length, get_or, take}
use Rattle.std.proofs.Math.Option.{Option, none, some}
use Rattle.model.specs.Sides.{Layout}
use Rattle.model.specs.Records.{Action}
use Rattle.model.specs.Blocks.{Block, Plan}
use Rattle.model.specs.Runs.{Config, Manner, proper, carried_on, Step, step, stopped, begin}

-- the number of the record that comes next, none where no record is left
abbrev pub next_number : Block Action → Option ℕ
next_number Block.done = none
next_number (Block.act r x b) = some r
next_number (Block.branch r x y b) = some r
next_number (Block.loop r x b) = some r
next_number (Block.fixed r n x b) = some r

-- from configuration k the run takes the steps that these entries log, and comes to k'. "The router logs each executed record, each
-- test of a branch or loop, and each turn of a fixed loop at its start": each of them is a step of the definition of a run, and a fixed
-- loop's end is none
abbrev pub Logs : Manner → Layout → Config → List ℕ → Config → Type 0
Logs manner layout k [] k' = k ≡ k'
Logs manner layout k (r ∷ log) k' =
    (k₁ : Config) × (next_number k.left ≡ some r) × (step manner layout k ≡ Step.next k₁) × Logs manner layout k₁ log k'

-- a log "is the beginning of a run": of one proper, in which "no entry of it is stuck"; or of one carried on, "stops aside"
pub record Begins (manner : Manner) (plan : Plan) (log : List ℕ) : Type 0 where
  pub choices : List Bool
  pub config : Config
  pub logs : Logs manner plan.layout (begin plan choices) log config

-- what is said of a log: it is accepted, 30 at an entry, or 31 at one, "from 0"
pub data Finding : Type 0 where
  accepted : Finding
  off : ℕ → Finding
  stuck : ℕ → Finding

-- "30: no run, stops aside, goes on with this entry": the entries before it are accepted, and with it they begin no run
pub record Off (plan : Plan) (log : List ℕ) (i : ℕ) : Type 0 where
  pub inside : i < length log
  pub before : Begins proper plan (take i log)
  pub nowhere : Begins carried_on plan (take (suc i) log) → ⊥

-- "31: the record at this entry is stuck": the entries before it are accepted, and where they lead the run stops at that record
pub record Stuck (plan : Plan) (log : List ℕ) (i : ℕ) : Type 0 where
  pub inside : i < length log
  pub before : Begins proper plan (take i log)
  pub cell : ℕ
  pub stops : step proper plan.layout before.config ≡ Step.ends (stopped (get_or log i 0) cell)

-- "Held against a plain plan, a log is accepted exactly if it is the beginning of a run and no entry of it is stuck."; "the earlier one
-- counts": in both the entries before are accepted
abbrev pub Finds : Plan → List ℕ → Finding → Type 0
Finds plan log accepted = Begins proper plan log
Finds plan log (off i) = Off plan log i
Finds plan log (stuck i) = Stuck plan log i
