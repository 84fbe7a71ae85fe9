-- No promise of an entry point rests on this text: how a run begins, and what its steps leave at its end.
use Rattle.std.specs.Prelude.{ℕ, ◌≤◌, ◌<◌, ◌≡◌, true, List, length, get_or, None, Ok}
use Rattle.model.specs.declared.Tally.{Tally}
use Rattle.model.specs.Sides.{host, cell_count}
use Rattle.model.specs.Effects.{start}
use Rattle.contents.specs.declared.Opened.{Opened}
use Rattle.reading.specs.Bytes.{is_plain, array_count, layout_of, bodies_at}
use Rattle.format.specs.Opening.{opened}
use Rattle.memories.specs.Memories.{number_of}
use Rattle.known.specs.Inner.Knowing.{at_start}
use Rattle.standing.specs.declared.Machine.{Machine}
use Rattle.places.specs.Inner.Places.{started}
use Rattle.standing.specs.Inner.Standing.{runner, Reaches}

-- the first cells of the arrays stand at the front of the room, and behind them it is as before
pub record Fronted (starts before room : List ℕ) : Type 0 where
  pub size : length room ≡ 81
  pub front : (a : ℕ) → a < 33 → get_or room a 0 ≡ get_or starts a 0
  pub behind : (a : ℕ) → 33 ≤ a → get_or room a 0 ≡ get_or before a 0

-- the file has so many arrays, and their entries stand inside it
pub record Counted (f : List ℕ) (arrays : ℕ) : Type 0 where
  pub count : arrays ≡ array_count f
  pub few : arrays ≤ 32
  pub inside : bodies_at f ≤ length f

-- the first n cells hold 0
pub record Zeros (n : ℕ) (memory : List ℕ) : Type 0 where
  pub inside : n ≤ length memory
  pub zero : (c : ℕ) → c < n → get_or memory c 0 ≡ 0

-- what the host's memory holds of cell c before the first record
unfoldable pub first_host : List ℕ → ℕ → ℕ
first_host f c = number_of (((start (layout_of f)).cell c).held host)

-- before the first record, where the host's flags are these
abbrev pub first_machine : ℕ → ℕ → ℕ → Machine
first_machine records flags bodies = record {
  place = started records;
  host_flags = flags;
  card_flags = 0;
  known = at_start flags;
  bodies = bodies;
  last = record {
    0 = 0;
  };
  verdict = None;
}

-- a machine whose room is no longer there has reached a configuration of the run
pub record ReachesEnd (f choices : List ℕ) (m : Machine) (own others latest : List ℕ) (t : Tally) : Type 0 where
  pub room : List ℕ
  pub reaches : Reaches f choices (runner m room) own others latest t

-- the file is a plain plan that opening has found to be o, and the run may begin
pub record Ready (f : List ℕ) (o : Opened) (choices own others latest : List ℕ) : Type 0 where
  pub found : Ok o ≡ opened f
  pub plain : is_plain f ≡ true
  pub own_room : cell_count (layout_of f) ≤ length own
  pub others_room : cell_count (layout_of f) ≤ length others
  pub latest_room : cell_count (layout_of f) ≤ length latest
  pub few : length choices ≤ 65536
