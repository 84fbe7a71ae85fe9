-- No promise of an entry point rests on this text: where the runner stands, and which configuration of the run that is.
use Rattle.std.specs.Prelude.{ℕ, ◌+◌, ◌-◌, ◌*◌, ◌≤◌, ◌≡◌, cond, List, eqb, length, get_or, drop, Option, None, Some, is_none, Ok, Err}
use Rattle.model.specs.declared.Record.{Record}
use Rattle.model.specs.declared.Tally.{Tally}
use Rattle.model.specs.Sides.{host}
use Rattle.model.specs.Records.{Action}
use Rattle.model.specs.Blocks.{Block}
use Rattle.model.specs.Runs.{Config, Ending, Step, finished, stopped, out_of_choices, step, Run, tally, proper}
use Rattle.model.specs.Verdicts.{Verdict, Accepted, Stopped, Refused, stopped_at}
use Rattle.reading.specs.declared.Fields.{Fields}
use Rattle.reading.specs.Bytes.{layout_of}
use Rattle.format.specs.Plans.{plan_of}
use Rattle.format.specs.Inner.Walks.{Plain, Starts}
use Rattle.acts.specs.declared.Stored.{Stored}
use Rattle.known.specs.declared.Known.{Known}
use Rattle.places.specs.Inner.Places.{Spot, spot, settled, chosen, turned, left_of, weight, Placed}
use Rattle.standing.specs.declared.Machine.{Machine}
use Rattle.standing.specs.Choices.{choices_of}
use Rattle.acts.specs.Inner.Acting.{Acted, Holds}

-- a machine with its room
pub record Runner : Type 0 where
  pub place : Spot
  pub host_flags : ℕ
  pub card_flags : ℕ
  pub known : Known
  pub bodies : ℕ
  pub last : Record
  pub verdict : Option Verdict

-- from its two parts
abbrev pub runner : Machine → List ℕ → Runner
runner m room = record {
  place = spot m.place room;
  host_flags = m.host_flags;
  card_flags = m.card_flags;
  known = m.known;
  bodies = m.bodies;
  last = m.last;
  verdict = m.verdict;
}

-- its flags and what it knows with a tally: what a record acts on
abbrev pub stored_with : Runner → Tally → Stored
stored_with m t = record {
  host_flags = m.host_flags;
  card_flags = m.card_flags;
  tally = t;
  known = m.known;
}

-- past a record without arms
abbrev pub past_record : Spot → Spot
past_record p = record { at = p.at + 1; end = p.end; depth = p.depth; used = p.used; room = p.room }

-- the run has ended
abbrev pub ended_with : Runner → Verdict → Runner
ended_with m v = record {
  place = m.place;
  host_flags = m.host_flags;
  card_flags = m.card_flags;
  known = m.known;
  bodies = m.bodies;
  last = m.last;
  verdict = Some v;
}

-- the run has moved on from a record
abbrev pub moved_to : Runner → Spot → ℕ → ℕ → Known → Runner
moved_to m p on_host on_card k = record {
  place = p;
  host_flags = on_host;
  card_flags = on_card;
  known = k;
  bodies = m.bodies;
  last = record {
    0 = m.place.at;
  };
  verdict = m.verdict;
}

-- where the run stands after a record without arms
abbrev pub after_act : Runner → Acted → Runner
after_act m (Ok s) = moved_to m (settled (past_record m.place)) s.host_flags s.card_flags s.known
after_act m (Err c) = ended_with m (Stopped (record { 0 = m.place.at }) c)

-- the tally after it
abbrev pub tally_after : Tally → Acted → Tally
tally_after t (Ok s) = s.tally
tally_after t (Err c) = t

-- a branch, or a test of a loop
unfoldable pub tested : Runner → Fields → List ℕ → Runner
tested m x choices =
    cond (eqb m.place.used (length choices)) (ended_with m (Refused 22 m.place.at))
    (moved_to m (settled (chosen m.place x (get_or choices m.place.used 0))) m.host_flags m.card_flags m.known)

-- a turn of a fixed loop begins
unfoldable pub turn_begun : Runner → Fields → Runner
turn_begun m x = moved_to m (settled (turned m.place x)) m.host_flags m.card_flags m.known

-- a record with arms
unfoldable pub led : Runner → Fields → List ℕ → Runner
led m x choices = cond (eqb x.kind 9) (turn_begun m x) (tested m x choices)

-- more than the weight of what is left at any place
abbrev pub heavy : ℕ
heavy = 134217728

-- it falls with every step of a machine that runs, where n choices are given
unfoldable pub measure : List ℕ → ℕ → Runner → ℕ
measure f n m = (n - m.place.used) * heavy + weight (left_of f m.place) + cond (is_none m.verdict) 1 0

-- the machine, the memories and the tally hold configuration k
pub record Stands (f choices : List ℕ) (m : Runner) (own others latest : List ℕ) (t : Tally) (k : Config) : Type 0 where
  pub plain : Plain f m.bodies
  pub many : length choices ≤ 65536
  pub starts : Starts f m.place.room
  pub placed : Placed f m.place
  -- at the end of an arm it has left the arm
  pub settles : m.place.at ≡ m.place.end → m.place.depth ≡ 0
  pub left : k.left ≡ left_of f m.place
  pub used : m.place.used ≤ length choices
  pub choices_left : k.choices ≡ choices_of (drop m.place.used choices)
  pub holds : Holds (layout_of f) host (stored_with m t) own others latest k.state k.history
  -- what bounds the stamps and the tally
  pub few : length k.history + weight (left_of f m.place) ≤ (m.place.used + 1) * heavy
  pub few_moved : (tally (layout_of f) k.history).moved ≤ length k.history * 4096

-- the number of the record that comes next
abbrev pub next_record : Block Action → ℕ
next_record Block.done = 0
next_record (Block.act r x b) = r
next_record (Block.branch r x y b) = r
next_record (Block.loop r x b) = r
next_record (Block.fixed r n x b) = r

-- what the machine says of an ending
abbrev pub said_of : Ending → Verdict
said_of finished = Accepted
said_of (stopped r c) = stopped_at r c
said_of (out_of_choices r) = Refused 22 r

-- from configuration k, the machine has made this step of the definition of a run and says which record it executed; or the run ends at k,
-- and the machine says how
abbrev pub StepsAs : List ℕ → List ℕ → Config → Runner → List ℕ → List ℕ → List ℕ → Tally → Step → Type 0
StepsAs f choices k m own others latest t (Step.next k') =
    (m.verdict ≡ None) × (m.last.0 ≡ next_record k.left) × Stands f choices m own others latest t k'
StepsAs f choices k m own others latest t (Step.ends e) =
    (m.verdict ≡ Some (said_of e)) × Stands f choices m own others latest t k

-- one call of `step` is one step of the definition, from whatever configuration the machine, the memories and the tally held
abbrev pub Steps : List ℕ → List ℕ → Runner → List ℕ → List ℕ → List ℕ → Tally → Runner → List ℕ → List ℕ → List ℕ → Tally → Type 0
Steps f choices m own others latest t m' own' others' latest' t' =
    (k : Config) → Stands f choices m own others latest t k → StepsAs f choices k m' own' others' latest' t' (step proper (layout_of f) k)

-- some configuration is held
pub record Stood (f choices : List ℕ) (m : Runner) (own others latest : List ℕ) (t : Tally) : Type 0 where
  pub config : Config
  pub stands : Stands f choices m own others latest t config

-- the run ends at configuration k, as the verdict says
pub record Over (f : List ℕ) (k : Config) (v : Verdict) : Type 0 where
  pub ending : Ending
  pub last : step proper (layout_of f) k ≡ Step.ends ending
  pub says : v ≡ said_of ending

-- the run goes on, or it has ended
abbrev pub Ended : List ℕ → Config → Option Verdict → Type 0
Ended f k None = Unit {0}
Ended f k (Some v) = Over f k v

-- the machine, the memories and the tally are at a configuration of the run
pub record Reaches (f choices : List ℕ) (m : Runner) (own others latest : List ℕ) (t : Tally) : Type 0 where
  pub config : Config
  pub run : Run proper (plan_of f) (choices_of choices) config
  pub stands : Stands f choices m own others latest t config
  pub ended : Ended f config m.verdict
