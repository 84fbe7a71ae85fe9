-- No promise of an entry point rests on this text: what is found from some statuses: those that can be reached, and the lowest stop.
use Rattle.std.specs.Prelude.{ℕ, ◌≤◌, ◌<◌, ◌≡◌, ◌⊎◌, ◌↔◌, Option}
use Rattle.model.specs.declared.Record.{Record}
use Rattle.model.specs.Inner.Statuses.{Status}
use Rattle.statuses.specs.declared.acts.Found.{Found}
use Rattle.statuses.specs.Inner.Sets.{In, number_of}

-- `low` is a record, at most r
abbrev pub Below : ℕ → ℕ → Type 0
Below low r = (low ≤ r) × (low < 65535)

-- t is what is found from the statuses that `from` names, where G says how a status goes on and S at which records it stops; `low` was the
-- lowest stop so far
pub record Ran (G : Status → Status → Type 0) (S : Status → ℕ → Type 0) (from : Status → Type 0) (low : Option Record) (t : Found) : Type 0 where
  -- the set is the image
  pub exits : (v : Status) → In t.set v ↔ ((u : Status) × from u × G u v)
  -- the lowest stop is that so far or one of these
  pub lower : number_of t.low ≤ number_of low
  pub named : (t.low ≡ low) ⊎ ((u : Status) × from u × S u (number_of t.low))
  -- and at most each of these
  pub least : (u : Status) (r : ℕ) → from u → S u r → Below (number_of t.low) r
