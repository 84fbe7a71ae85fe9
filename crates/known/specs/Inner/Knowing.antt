-- No promise of an entry point rests on this text: what a run knows of its cells.
use Rattle.std.specs.Prelude.{ℕ, ◌<◌, ◌≡◌, Bool, true, false, not, cond, ◌&&◌, ◌||◌, List, eqb, length, get_or}
use Rattle.model.specs.Inner.Holders.{array_of}
use Rattle.model.specs.Sides.{Layout, cell_count}
use Rattle.memories.specs.Flags.{mask}
use Rattle.memories.specs.Inner.Ranges.{AllCurrent}
use Rattle.known.specs.declared.Known.{Known}

-- what is known on a side
abbrev pub known_in : Bool → Known → ℕ
known_in on_card k = cond on_card k.card k.host

-- at the start: the arrays that are flagged on the host, none on the card
abbrev pub at_start : ℕ → Known
at_start flags = record { host = flags; card = 0 }

-- the cells of the arrays in a set are current
pub record Sound (layout : Layout) (known : ℕ) (copies latest : List ℕ) : Type 0 where
  pub these : ℕ → Bool
  pub masked : known ≡ mask (length layout.lengths) these
  pub current : (c : ℕ) → c < cell_count layout → these (array_of layout c) ≡ true → get_or copies c 0 ≡ get_or latest c 0

-- what is known holds of the memories
pub record Knows (layout : Layout) (k : Known) (host card latest : List ℕ) : Type 0 where
  pub on_host : Sound layout k.host host latest
  pub on_card : Sound layout k.card card latest

-- if array a is in a set, the cells `from` up to `to` are current
pub record Tells (known a from to : ℕ) (copies latest : List ℕ) : Type 0 where
  pub many : ℕ
  pub these : ℕ → Bool
  pub low : a < many
  pub masked : known ≡ mask many these
  pub current : these a ≡ true → AllCurrent copies latest from to

-- the same on both sides
pub record Sure (k : Known) (a from to : ℕ) (host card latest : List ℕ) : Type 0 where
  pub on_host : Tells k.host a from to host latest
  pub on_card : Tells k.card a from to card latest

-- array a is added to a set, where the whole of it is meant
abbrev pub Added : Bool → ℕ → ℕ → ℕ → Type 0
Added whole a known known' = (n : ℕ) (these : ℕ → Bool) → a < n → known ≡ mask n these → known' ≡ mask n (λ b. whole && eqb b a || these b)

-- it is taken out
abbrev pub Dropped : ℕ → ℕ → ℕ → Type 0
Dropped a known known' = (n : ℕ) (these : ℕ → Bool) → a < n → known ≡ mask n these → known' ≡ mask n (λ b. cond (eqb b a) false (these b))

-- after a write on a side
pub record Wrote (on_card whole : Bool) (a : ℕ) (k k' : Known) : Type 0 where
  pub own : Added whole a (known_in on_card k) (known_in on_card k')
  pub others : Dropped a (known_in (not on_card) k) (known_in (not on_card) k')

-- after a copy
pub record Copied (whole : Bool) (a : ℕ) (k k' : Known) : Type 0 where
  pub on_host : Added whole a k.host k'.host
  pub on_card : Added whole a k.card k'.card
