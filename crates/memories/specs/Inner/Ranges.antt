-- No promise of an entry point rests on this text: ranges of cells of a lent memory, and of the memories of both sides.
use Rattle.std.specs.Prelude.{ℕ, ◌≤◌, ◌<◌, ◌≡◌, Bool, true, false, cond, List, length, get_or}
use Rattle.model.specs.Records.{stepped}

-- the cells `from` up to `to` lie inside a memory
pub record Room (from to : ℕ) (l : List ℕ) : Type 0 where
  pub order : from ≤ to
  pub inside : to ≤ length l

-- how far apart cells may be: the value of a byte that is not 0
abbrev pub IsStep : ℕ → Type 0
IsStep k = (1 ≤ k) × (k < 256)

-- their copies are current
abbrev pub AllCurrent : List ℕ → List ℕ → ℕ → ℕ → Type 0
AllCurrent copies latest from to = (c : ℕ) → from ≤ c → c < to → get_or copies c 0 ≡ get_or latest c 0

-- the copies from `from` up to r are current
pub record CurrentTo (copies latest : List ℕ) (from to r : ℕ) : Type 0 where
  pub low : from ≤ r
  pub high : r ≤ to
  pub before : AllCurrent copies latest from r

-- a search of the cells `from`, `from` + k and so on below `to` stands at r: those of them that are not ahead are current
pub record Passed (copies latest : List ℕ) (k from to r : ℕ) : Type 0 where
  pub low : from ≤ r
  pub ahead : (c : ℕ) → stepped k r to c ≡ true → stepped k from to c ≡ true
  pub behind : (c : ℕ) → stepped k from to c ≡ true → stepped k r to c ≡ false → get_or copies c 0 ≡ get_or latest c 0

-- r is the first of those cells whose copy is stale, `to` if none is
pub record FirstStale (copies latest : List ℕ) (k from to r : ℕ) : Type 0 where
  pub low : from ≤ r
  pub high : r ≤ to
  pub before : (c : ℕ) → stepped k from r c ≡ true → get_or copies c 0 ≡ get_or latest c 0
  pub one : r < to → stepped k from to r ≡ true
  pub here : r < to → get_or copies r 0 ≡ get_or latest r 0 → ⊥

-- those cells are as `new` says, and every other cell is as it was
pub record Changed (k from to : ℕ) (new : ℕ → ℕ) (before after : List ℕ) : Type 0 where
  pub size : length after ≡ length before
  pub cell : (c : ℕ) → get_or after c 0 ≡ cond (stepped k from to c) (new c) (get_or before c 0)

-- the cells from n on are as they were
pub record Same (n : ℕ) (before after : List ℕ) : Type 0 where
  pub size : length after ≡ length before
  pub cell : (c : ℕ) → n ≤ c → get_or after c 0 ≡ get_or before c 0

-- the memory of the host, or of the card
abbrev pub of_side : Bool → List ℕ → List ℕ → List ℕ
of_side on_card host card = cond on_card card host

-- those cells of one side are as `new` says, and every other cell of both sides is as it was
pub record ChangedOn (on_card : Bool) (k from to : ℕ) (new : ℕ → ℕ) (host card host' card' : List ℕ) : Type 0 where
  pub own : Changed k from to new (of_side on_card host card) (of_side on_card host' card')
  pub others : of_side on_card card' host' ≡ of_side on_card card host
