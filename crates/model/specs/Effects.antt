-- What a record on a side needs and does (document 01, 'What a record on side s does'; document 02, request f).
use Rattle.std.specs.Prelude.{ℕ, suc, ◌+◌, Bool, true, cond, not, ◌&&◌, ◌||◌, eqb}
use Rattle.model.specs.declared.Tally.{Tally}
use Rattle.model.specs.Sides.{Side, host, other, same_side, Stamp, never, at, equals, Layout, is_scratch, scratch_cell}
use Rattle.model.specs.Records.{Verb, read, write, copy, need, mark, same_verb, Action, covers}

-- "Each cell has a host copy, a card copy and a latest stamp": `held` and `latest`
pub record Stamps : Type 0 where
  pub held : Side → Stamp
  pub latest : ℕ

-- "Each array also has one flag a side"
pub record Flags : Type 0 where
  pub flag : Side → Bool

-- the cells by their numbers, the flags by the arrays' names, and how many write records were executed
pub record State : Type 0 where
  pub cell : ℕ → Stamps
  pub flags : ℕ → Flags
  pub writes : ℕ

-- "A copy is current if it equals the latest stamp, else stale."
abbrev pub current : Stamps → Side → Bool
current u s = equals (u.held s) u.latest

-- which copies are filled at the start: the host's; of scratch "both copies hold" never
abbrev pub starts_filled : Layout → Side → ℕ → Bool
starts_filled layout s c = same_side s host && not (scratch_cell layout c)

-- "At the start latest and host are 0 and the card holds" never; the flags are "at the start set for the host only", of scratch "its flags
-- are clear, latest is 0"
abbrev pub start : Layout → State
start layout = record {
  cell = λ c. record { held = λ s. cond (starts_filled layout s c) (at 0) never; latest = 0 };
  flags = λ n. record { flag = λ s. same_side s host && not (is_scratch layout n) };
  writes = 0;
}

-- what a record comes to in each cell that it covers: nothing; it gets the copy on a side; it puts a stamp there; it moves the copy from a
-- side to a side
pub data Deed : Type 0 where
  nothing : Deed
  gets : Side → Deed
  puts : Side → Deed
  moves : Side → Side → Deed

-- what a verb on side s comes to, and what it makes of the array's flags, which are f
abbrev pub comes_to : Verb → Side → Flags → Deed × Flags
-- "Read: needs its cells current on s. Changes nothing."
comes_to read s f = (gets s, f)
-- "Write: the k-th executed write record (k from 1) puts stamp k in its cells on s and in latest."
comes_to write s f = (puts s, f)
-- "Copy: needs its cells current on the other side, then copies them to s."
comes_to copy s f = (moves (other s) s, f)
-- "Need: if the array's flag for s is set, nothing. Else a copy of the whole array to s, then both flags set."
comes_to need s f = cond (f.flag s) (nothing, f) (moves (other s) s, record { flag = λ t. true })
-- "Mark: sets the array's flag for s, clears the other. Touches no cell."
comes_to mark s f = (nothing, record { flag = λ t. same_side t s })

-- what a deed needs of one cell
abbrev pub needs : Deed → Stamps → Bool
needs nothing u = true
needs (gets s) u = current u s
needs (puts s) u = true
needs (moves from to) u = current u from

-- what it does to one cell; k is the stamp that a write record puts
abbrev pub does : ℕ → Deed → Stamps → Stamps
does k nothing u = u
does k (gets s) u = u
does k (puts s) u = record { held = λ t. cond (same_side t s) (at k) (u.held t); latest = k }
does k (moves from to) u = record { held = λ t. cond (same_side t to) (u.held from) (u.held t); latest = u.latest }

-- what it adds to the tally, where n cells are covered: "read records, write records, cells moved"
abbrev pub counted : Deed → ℕ → Tally → Tally
counted nothing n t = t
counted (gets s) n t = record { reads = suc t.reads; writes = t.writes; moved = t.moved }
counted (puts s) n t = record { reads = t.reads; writes = suc t.writes; moved = t.moved }
counted (moves from to) n t = record { reads = t.reads; writes = t.writes; moved = t.moved + n }

-- what a record comes to in a state
abbrev pub deed : Action → State → Deed
deed x σ = (comes_to x.verb x.side (σ.flags x.name)).0

-- whether cell c has what a record needs of it
abbrev pub met : Layout → Action → State → ℕ → Bool
met layout x σ c = not (covers layout x c) || needs (deed x σ) (σ.cell c)

-- what a record does, its need met or not
abbrev pub effect : Layout → Action → State → State
effect layout x σ = record {
  cell = λ c. cond (covers layout x c) (does (suc σ.writes) (deed x σ) (σ.cell c)) (σ.cell c);
  flags = λ n. cond (eqb n x.name) (comes_to x.verb x.side (σ.flags n)).1 (σ.flags n);
  writes = cond (same_verb x.verb write) (suc σ.writes) σ.writes;
}
