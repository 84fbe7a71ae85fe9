-- No promise of an entry point rests on this text: what a record of kind 1 to 5 does to lent memories, flags and tally.
use Rattle.std.specs.Prelude.{ℕ, ◌+◌, ◌-◌, ◌/◌, ◌≤◌, ◌<◌, ◌≡◌, Bool, true, cond, ◌&&◌, List, ◌∷◌, eqb, leb, length, get_or, Result, Ok, Err}
use Rattle.std.proofs.Math.Option.{none, some}
use Rattle.model.specs.Sides.{Side, host, card, other, Layout, cell_count, span_of}
use Rattle.model.specs.Records.{Verb, Action, distance, stepped, covers, cover_count}
use Rattle.model.specs.Effects.{State, effect}
use Rattle.model.specs.Runs.{Event, lowest_unmet, tally}
use Rattle.model.specs.Inner.Events.{event, Past}
use Rattle.model.specs.Inner.Holders.{array_of}
use Rattle.model.specs.declared.Cell.{Cell}
use Rattle.acts.specs.declared.Stored.{Stored}
use Rattle.acts.specs.declared.Cells.{Cells}
use Rattle.memories.specs.Memories.{number_of}
use Rattle.memories.specs.Flags.{mask}
use Rattle.memories.specs.Inner.Ranges.{Room, FirstStale, Changed, of_side}
use Rattle.known.specs.declared.Known.{Known}
use Rattle.known.specs.Inner.Knowing.{Knows, Sure, Copied}

-- the cells `from` up to `to` lie inside three memories, and they are no more than a plan has; k is the byte of a step
pub record Rooms (k from to : ℕ) (own others latest : List ℕ) : Type 0 where
  pub step : k < 256
  pub few : to ≤ 4096
  pub in_own : Room from to own
  pub in_others : Room from to others
  pub in_latest : Room from to latest

-- the tally leaves room for one record more
pub record Low (s : Stored) : Type 0 where
  pub reads : s.tally.reads < 17592186044416
  pub writes : s.tally.writes < 17592186044416
  pub moved : s.tally.moved < 72057594037927936

-- the cells x lie inside three memories, and what is known of their array holds of them
pub record Near (x : Cells) (known : Known) (host card latest : List ℕ) : Type 0 where
  pub array : x.array < 32
  pub sure : Sure known x.array x.from x.to host card latest
  pub rooms : Rooms x.step x.from x.to host card latest

-- and the tally leaves room for a record of them
pub record Bears (x : Cells) (s : Stored) (host card latest : List ℕ) : Type 0 where
  pub low : Low s
  pub near : Near x s.known host card latest

-- what a record comes to: what is stored after it, or the lowest cell in which its need is unmet
abbrev pub Acted : Type 0
Acted = Result Stored Cell

-- a record with this verb on this side, of the cells that x names
abbrev pub with_verb : Verb → Side → Action → Action
with_verb v s x = record { verb = v; side = s; name = x.name; step = x.step; p = x.p; q = x.q }

-- how many cells there are from `from` up to `to` at step k
abbrev pub cells_between : ℕ → ℕ → ℕ → ℕ
cells_between k from to = (to - from + (k - 1)) / k

-- the cells that a record covers are those from `from` up to `to` at step k, and all cells between them are of its array
pub record CellsAt (layout : Layout) (x : Action) (k from to : ℕ) : Type 0 where
  pub one : x.name < length layout.lengths
  pub some : 1 ≤ k
  pub cells : (c : ℕ) → covers layout x c ≡ stepped k from to c
  pub own : (c : ℕ) → from ≤ c → c < to → array_of layout c ≡ x.name
  pub ends : to ≤ cell_count layout
  pub count : cover_count layout x ≡ cells_between k from to

-- those of an array, each of them
pub record ArrayAt (layout : Layout) (a k from to : ℕ) : Type 0 where
  pub one : a < length layout.lengths
  pub each : k ≡ 1
  pub begins : from ≡ (span_of layout a).first
  pub ends : to ≡ (span_of layout a).first + (span_of layout a).length

-- a record of array a; where it covers the whole of it, its cells are those of the array
pub record CellsOf (layout : Layout) (x : Action) (a : ℕ) (whole : Bool) (k from to : ℕ) : Type 0 where
  pub range : CellsAt layout x k from to
  pub array : x.name ≡ a
  pub all : whole ≡ true → ArrayAt layout a k from to

-- a record names the cells x, and where these are its whole array, they are all its cells
abbrev pub Names : Layout → Action → Cells → Type 0
Names layout y x = CellsOf layout y x.array (x.whole && leb x.step 1) (distance x.step) x.from x.to

-- it names the cells x
abbrev pub NamesEach : Layout → Action → Cells → Type 0
NamesEach layout y x = CellsAt layout y (distance x.step) x.from x.to

-- the copies of the cells x are all current, or the first that is stale
abbrev pub AllCurrentOr : Cells → List ℕ → List ℕ → Result (Unit {0}) Cell → Type 0
AllCurrentOr x copies latest (Ok _) = FirstStale copies latest (distance x.step) x.from x.to x.to
AllCurrentOr x copies latest (Err c) = FirstStale copies latest (distance x.step) x.from x.to c.0 × (c.0 < x.to)

-- the memories, flags and tally, seen from side t, hold the state σ after the history l
pub record Holds (layout : Layout) (t : Side) (s : Stored) (own others latest : List ℕ) (σ : State) (l : List Event) : Type 0 where
  pub own_room : cell_count layout ≤ length own
  pub others_room : cell_count layout ≤ length others
  pub latest_room : cell_count layout ≤ length latest
  pub own_held : (c : ℕ) → c < cell_count layout → get_or own c 0 ≡ number_of ((σ.cell c).held t)
  pub others_held : (c : ℕ) → c < cell_count layout → get_or others c 0 ≡ number_of ((σ.cell c).held (other t))
  pub latest_held : (c : ℕ) → c < cell_count layout → get_or latest c 0 ≡ (σ.cell c).latest
  pub own_flags : s.host_flags ≡ mask (length layout.lengths) (λ a. (σ.flags a).flag t)
  pub others_flags : s.card_flags ≡ mask (length layout.lengths) (λ a. (σ.flags a).flag (other t))
  pub reads : s.tally.reads ≡ (tally layout l).reads
  pub writes : s.tally.writes ≡ (tally layout l).writes
  pub moved : s.tally.moved ≡ (tally layout l).moved
  pub counted : s.tally.writes ≡ σ.writes
  pub past : Past σ
  pub knows : Knows layout s.known own others latest

-- r is s with the flag of array a set on both sides
pub record BothSet (s : Stored) (a : ℕ) (r : Stored) : Type 0 where
  pub own : (n : ℕ) (flag : ℕ → Bool) → a < n → s.host_flags ≡ mask n flag → r.host_flags ≡ mask n (λ b. cond (eqb b a) true (flag b))
  pub others : (n : ℕ) (flag : ℕ → Bool) → a < n → s.card_flags ≡ mask n flag →
      r.card_flags ≡ mask n (λ b. cond (eqb b a) true (flag b))
  pub reads : r.tally.reads ≡ s.tally.reads
  pub writes : r.tally.writes ≡ s.tally.writes
  pub moved : r.tally.moved ≡ s.tally.moved
  pub known : r.known ≡ s.known

-- the same where a record has acted
abbrev pub BothSetAs : Acted → ℕ → Acted → Type 0
BothSetAs (Ok s) a (Ok s') = BothSet s a s'
BothSetAs (Ok s) a (Err c) = ⊥
BothSetAs (Err c) a (Ok s) = ⊥
BothSetAs (Err c) a (Err c') = c' ≡ c

-- what a record with the action y did, whatever its number, seen from side t: it acted, or it is unmet and nothing has changed
abbrev pub FollowsAs : Layout → Action → Side → State → List Event → List ℕ → List ℕ → List ℕ → Acted → List ℕ → List ℕ → Type 0
FollowsAs layout y t σ l own others latest (Ok s) own' latest' =
    (lowest_unmet layout y σ ≡ none)
    × Holds layout t s own' others latest' (effect layout y σ) (event 0 y σ ∷ l)
FollowsAs layout y t σ l own others latest (Err c) own' latest' =
    (lowest_unmet layout y σ ≡ some c.0) × (own' ≡ own) × (latest' ≡ latest)

-- whatever state the memories, flags and tally held
abbrev pub Follows : Layout → Action → Side → Stored → List ℕ → List ℕ → List ℕ → Acted → List ℕ → List ℕ → Type 0
Follows layout y t s own others latest r own' latest' =
    (σ : State) (l : List Event) → Holds layout t s own others latest σ l →
    FollowsAs layout y t σ l own others latest r own' latest'

-- the same of both sides' memories, seen from the host
abbrev pub ActsAs : Layout → Action → State → List Event → List ℕ → List ℕ → List ℕ → Acted → List ℕ → List ℕ → List ℕ → Type 0
ActsAs layout y σ l own others latest (Ok s) own' others' latest' =
    (lowest_unmet layout y σ ≡ none)
    × Holds layout host s own' others' latest' (effect layout y σ) (event 0 y σ ∷ l)
ActsAs layout y σ l own others latest (Err c) own' others' latest' =
    (lowest_unmet layout y σ ≡ some c.0) × (own' ≡ own) × (others' ≡ others) × (latest' ≡ latest)

-- whatever state the memories, flags and tally held
abbrev pub Acts : Layout → Action → Stored → List ℕ → List ℕ → List ℕ → Acted → List ℕ → List ℕ → List ℕ → Type 0
Acts layout y s own others latest r own' others' latest' =
    (σ : State) (l : List Event) → Holds layout host s own others latest σ l →
    ActsAs layout y σ l own others latest r own' others' latest'

-- the side that is meant
abbrev pub side_on : Bool → Side
side_on on_card = cond on_card card host

-- the flags of a side
abbrev pub flags_on : Bool → Stored → ℕ
flags_on on_card s = cond on_card s.card_flags s.host_flags

-- the cells `from` up to `to` of array a at step k, or the whole of it, are copied from the other side, where all of them are current;
-- or the first that is stale there, and nothing has changed
abbrev pub MovesCells : ℕ → Bool → ℕ → ℕ → ℕ → Stored → List ℕ → List ℕ → List ℕ → Acted → List ℕ → Type 0
MovesCells a whole k from to s own others latest (Ok s') own' =
    FirstStale others latest k from to to
    × Changed k from to (λ c. get_or others c 0) own own'
    × (s' ≡ record s { tally = record s.tally { moved = s.tally.moved + cells_between k from to }; known = s'.known })
    × Copied whole a s.known s'.known
MovesCells a whole k from to s own others latest (Err c) own' = FirstStale others latest k from to c.0 × (c.0 < to) × (own' ≡ own)

-- to one side, and the other side is as it was
pub record MovesOn (on_card : Bool) (a : ℕ) (whole : Bool) (k from to : ℕ) (s : Stored) (host card latest : List ℕ) (r : Acted)
    (host' card' : List ℕ) : Type 0 where
  pub moves : MovesCells a whole k from to s (of_side on_card host card) (of_side on_card card host) latest r (of_side on_card host' card')
  pub others : of_side on_card card' host' ≡ of_side on_card card host

-- the same of the cells x
abbrev pub Moves : Bool → Cells → Stored → List ℕ → List ℕ → List ℕ → Acted → List ℕ → List ℕ → Type 0
Moves on_card x s hs cs latest r hs' cs' = MovesOn on_card x.array (x.whole && leb x.step 1) (distance x.step) x.from x.to s hs cs latest r hs' cs'
