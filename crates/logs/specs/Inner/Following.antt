-- No promise of an entry point rests on this text: where the run that a log tells stands, and how an entry leads on.
use Rattle.std.specs.Prelude.{Result, Ok, Err, Option, None, Some, ℕ, ◌+◌, ◌-◌, ◌≤◌, ◌<◌, ◌≡◌, Bool, true, cond, ◌&&◌, List, [], ◌++◌, eqb, ltb, length, get_or, take}
use Rattle.std.proofs.Math.Option.{some}
use Rattle.model.specs.Verdicts.{Refused}
use Rattle.model.specs.Runs.{Config, proper, carried_on, begin}
use Rattle.model.specs.Inner.Events.{Past}
use Rattle.reading.specs.declared.Fields.{Fields}
use Rattle.reading.specs.Bytes.{is_plain, layout_of}
use Rattle.contents.specs.declared.Opened.{Opened}
use Rattle.format.specs.Opening.{opened}
use Rattle.format.specs.Plans.{plan_of}
use Rattle.format.specs.Inner.Walks.{Plain, Starts}
use Rattle.places.specs.declared.Place.{Place}
use Rattle.places.specs.Inner.Places.{Spot, spot, settled, chosen, turned, left_of, Placed}
use Rattle.standing.specs.Inner.Standing.{past_record}
use Rattle.tracked.specs.Inner.Tracking.{Statuses}
use Rattle.logs.specs.declared.Held.{Held}
use Rattle.logs.specs.declared.Refusal.{Refusal}
use Rattle.logs.specs.declared.Stage.{Stage}
use Rattle.logs.specs.Logs.{next_number, Logs}
use Rattle.logs.specs.Logged.{Says}

-- a place at which no choice is used: `used` says nothing of where a log stands
abbrev pub unused : Spot → Spot
unused p = record { at = p.at; end = p.end; depth = p.depth; used = 0; room = p.room }

-- r is the record to which choice 1 leads, and the end of what holds it
pub record Ahead (p : Spot) (x : Fields) (r : Place) : Type 0 where
  pub at : r.at ≡ (settled (chosen p x 1)).at
  pub end : r.end ≡ (settled (chosen p x 1)).end

-- the choice that the next entry tells: 1 if that leads to its record
abbrev pub told_by : Spot → Fields → ℕ → ℕ
told_by p x next = let q = settled (chosen p x 1) in cond (eqb q.at next && ltb q.at q.end) 1 0

-- where a record with arms leads
unfoldable pub led_by : Spot → Fields → ℕ → Spot
led_by p x next = cond (eqb x.kind 9) (settled (turned p x)) (settled (chosen p x (told_by p x next)))

-- where a log stands, with its room
pub record Trail : Type 0 where
  pub place : Spot
  pub number : ℕ

-- the log goes on from a place
abbrev pub moved_to : Spot → Trail
moved_to p = record { place = p; number = 0 }

-- the number of a refusal
abbrev pub number_of : Refusal → ℕ
number_of Refusal.NoRun = 30
number_of Refusal.Stops = 31

-- an entry is refused: no place counts behind it
abbrev pub refused_with : List ℕ → ℕ → Trail
refused_with room number = record { place = record { at = 0; end = 0; depth = 0; used = 0; room = room }; number = number }

-- the number of the refusal, 0 while the log goes on
abbrev pub stood : Result Place Refusal → ℕ
stood (Ok p) = 0
stood (Err e) = number_of e

-- where the log stands, if it goes on
abbrev pub place_of : Result Place Refusal → List ℕ → Spot
place_of (Ok p) room = spot p room
place_of (Err e) room = record { at = 0; end = 0; depth = 0; used = 0; room = room }

-- from its two parts
abbrev pub trail : Result Place Refusal → List ℕ → Trail
trail r room = record { place = place_of r room; number = stood r }

-- after a record without arms
abbrev pub after_act : Spot → Bool → Trail
after_act p stuck = cond stuck (refused_with p.room 31) (moved_to (settled (past_record p)))

-- after i of the entries l the run stands at this place, and the list has the status of each cell
pub record At (f l : List ℕ) (bodies : ℕ) (m : Trail) (cells : List ℕ) (i : ℕ) : Type 0 where
  pub plain : Plain f bodies
  pub starts : Starts f m.place.room
  pub placed : Placed f m.place
  -- at the end of an arm it has left the arm
  pub settles : m.place.at ≡ m.place.end → m.place.depth ≡ 0
  -- these choices have led there, and all are used
  pub choices : List Bool
  pub config : Config
  pub logs : Logs proper (layout_of f) (begin (plan_of f) choices) (take i l) config
  pub spent : config.choices ≡ []
  pub left : config.left ≡ left_of f m.place
  pub past : Past config.state
  pub statuses : Statuses (layout_of f) config.state cells
  -- if some run goes on with the next entry, this one does
  pub alone : i < length l →
      (cs : List Bool) (k : Config) → Logs carried_on (layout_of f) (begin (plan_of f) cs) (take i l) k →
      next_number k.left ≡ some (get_or l i 0) → next_number config.left ≡ some (get_or l i 0)

-- it stands there, entry i is `this`, and the one after it, if there is one, is `next`
pub record Comes (f l : List ℕ) (bodies : ℕ) (m : Trail) (cells : List ℕ) (i this next : ℕ) : Type 0 where
  pub stands : At f l bodies m cells i
  pub inside : i < length l
  pub this_is : this ≡ get_or l i 0
  pub next_is : i + 1 < length l → next ≡ get_or l (i + 1) 0

-- entry i has been held against the plan: the log goes on, or that entry is the answer
pub record Followed (f l : List ℕ) (bodies : ℕ) (m : Trail) (cells : List ℕ) (i : ℕ) : Type 0 where
  pub goes_on : m.number ≡ 0 → At f l bodies m cells (i + 1)
  pub ends : (m.number ≡ 0 → ⊥) → Says f l (record { verdict = Refused m.number 0; entry = i })

-- a stage from what changes at each entry, its cells and its room
abbrev pub staged : Held → List ℕ → List ℕ → Stage
staged h cells room = record { place = h.place; waiting = h.waiting; read = h.read; cells = cells; room = room }

-- what changes at each entry, where the log goes on from a place
abbrev pub held_at : Place → Option ℕ → ℕ → Held
held_at p waiting read = record { place = Ok p; waiting = waiting; read = read }

-- the same once the entry that waited is followed, if one did, and `next` is read
abbrev pub held_after : Result Place Refusal → Option ℕ → ℕ → ℕ → Held
held_after (Ok p) waiting read next = held_at p (Some next) (read + 1)
held_after (Err e) waiting read next = record { place = Err e; waiting = waiting; read = read }

-- the last of the entries l waits, if there is one
abbrev pub Awaits : List ℕ → Option ℕ → Type 0
Awaits l None = length l ≡ 0
Awaits l (Some n) = (0 < length l) × (n ≡ get_or l (length l - 1) 0)

-- the entries l are read, and all but the last are followed, whatever is read behind them
pub record Waits (f l : List ℕ) (bodies : ℕ) (t : Stage) : Type 0 where
  pub count : t.read ≡ length l
  pub last : Awaits l t.waiting
  pub stands : (more : List ℕ) → At f (l ++ more) bodies (trail t.place t.room) t.cells (t.read - 1)

-- one of them, and not the last, is refused
pub record Refuses (f l : List ℕ) (t : Stage) : Type 0 where
  pub some_read : 0 < t.read
  pub early : t.read < length l
  pub says : Says f l (record { verdict = Refused (stood t.place) 0; entry = t.read - 1 })

-- where the entries l have led
pub record HaveLed (f l : List ℕ) (bodies : ℕ) (t : Stage) : Type 0 where
  pub goes_on : stood t.place ≡ 0 → Waits f l bodies t
  pub ends : (stood t.place ≡ 0 → ⊥) → Refuses f l t

-- some entries have led there
pub record Underway (f : List ℕ) (bodies : ℕ) (t : Stage) : Type 0 where
  pub entries : List ℕ
  pub holds : HaveLed f entries bodies t

-- the entries of a part have led on from t to r, whichever were read before them
pub record LedOn (f : List ℕ) (bodies : ℕ) (part : List ℕ) (t r : Stage) : Type 0 where
  pub more : (l : List ℕ) → HaveLed f l bodies t → HaveLed f (l ++ part) bodies r
  pub counts : r.read ≤ t.read + length part

-- the file is a plain plan that opening has found to be o
pub record Opens (f : List ℕ) (o : Opened) : Type 0 where
  pub found : Ok o ≡ opened f
  pub plain : is_plain f ≡ true
