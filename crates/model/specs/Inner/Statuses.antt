-- No promise of an entry point rests on this text: the status of one cell, that is which of its copies are current and which flags of its
-- array are set.
use Rattle.std.specs.Prelude.{ℕ, Bool, true, cond, not, ◌&&◌, ◌||◌, eqb}
use Rattle.model.specs.Sides.{Side, host, card, same_side, Layout}
use Rattle.model.specs.Records.{Action, covers}
use Rattle.model.specs.Effects.{Flags, State, current, Deed, nothing, gets, puts, moves, comes_to}
use Rattle.model.specs.Inner.Holders.{array_of}

pub record Status : Type 0 where
  pub host_current : Bool
  pub card_current : Bool
  pub host_flag : Bool
  pub card_flag : Bool

abbrev pub current_on : Status → Side → Bool
current_on u host = u.host_current
current_on u card = u.card_current

abbrev pub flag_on : Status → Side → Bool
flag_on u host = u.host_flag
flag_on u card = u.card_flag

-- the status with these copies current and these flags set
abbrev pub status : (Side → Bool) → (Side → Bool) → Status
status f g = record { host_current = f host; card_current = f card; host_flag = g host; card_flag = g card }

-- a cell's status at the start: the host current and flagged; of scratch nothing current and no flag
abbrev pub at_start : Bool → Status
at_start scratch = status (λ s. same_side s host && not scratch) (λ s. same_side s host && not scratch)

-- what a deed needs, and makes, of the copies that are current
abbrev pub needs_of : Deed → (Side → Bool) → Bool
needs_of nothing v = true
needs_of (gets s) v = v s
needs_of (puts s) v = true
needs_of (moves from to) v = v from

abbrev pub makes_of : Deed → (Side → Bool) → Side → Bool
makes_of nothing v t = v t
makes_of (gets s) v t = v t
makes_of (puts s) v t = same_side t s
makes_of (moves from to) v t = cond (same_side t to) (v from) (v t)

-- what a record comes to, and makes of the flags, by the status of a cell of its array
abbrev pub flags_in : Status → Flags
flags_in u = record { flag = flag_on u }

abbrev pub comes_in : Action → Status → Deed × Flags
comes_in x u = comes_to x.verb x.side (flags_in u)

module _ (layout : Layout) (c : ℕ) where
  -- whether array a is the cell's own
  abbrev pub own : ℕ → Bool
  own a = eqb (array_of layout c) a

  -- the status of cell c
  abbrev pub status_of : State → Status
  status_of σ = status (current (σ.cell c)) (σ.flags (array_of layout c)).flag

  -- what a record needs of the cell, by its status
  abbrev pub met_in : Action → Status → Bool
  met_in x u = not (covers layout x c) || needs_of (comes_in x u).0 (current_on u)

  -- its status after the record
  abbrev pub status_after : Action → Status → Status
  status_after x u =
      status
      (λ t. cond (covers layout x c) (makes_of (comes_in x u).0 (current_on u) t) (current_on u t))
      (λ t. cond (own x.name) ((comes_in x u).1.flag t) (flag_on u t))
