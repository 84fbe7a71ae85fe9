-- No promise of an entry point rests on this text: a place in a plan with the arms that hold it, and what is left there.
use Rattle.std.specs.Prelude.{ℕ, zero, suc, ◌+◌, ◌-◌, ◌*◌, ◌≤◌, ◌<◌, ◌≡◌, cond, List, eqb, length, get_or, set}
use Rattle.model.specs.Records.{Action}
use Rattle.model.specs.Blocks.{Block, ◌then◌}
use Rattle.reading.specs.declared.Fields.{Fields}
use Rattle.reading.specs.Bytes.{record_count, fields_at, first_arm, second_arm}
use Rattle.format.specs.Inner.Walks.{Good, block_between}
use Rattle.places.specs.declared.Place.{Place}

-- a place with its room. Entry a of the room is the first cell of array a, entry 33 + d the end of what holds an arm at depth d, entry
-- 49 + d where the run goes on in it after the arm, and entry 65 + d how many turns have begun of the fixed loop at hand at depth d
pub record Spot : Type 0 where
  pub at : ℕ
  pub end : ℕ
  pub depth : ℕ
  pub used : ℕ
  pub room : List ℕ

-- from its two parts
abbrev pub spot : Place → List ℕ → Spot
spot p room = record { at = p.at; end = p.end; depth = p.depth; used = p.used; room = room }

-- the first record of a body
abbrev pub started : ℕ → Place
started records = record { at = 0; end = records; depth = 0; used = 0 }

-- into an arm
abbrev pub entered : Spot → ℕ → ℕ → ℕ → Spot
entered p at end back = record {
  at = at;
  end = end;
  depth = p.depth + 1;
  used = p.used;
  room = set (set p.room (33 + p.depth) p.end) (49 + p.depth) back;
}

-- past a loop
abbrev pub skipped : Spot → ℕ → Spot
skipped p at = record { at = at; end = p.end; depth = p.depth; used = p.used; room = p.room }

-- one choice more is used
abbrev pub used_one : Spot → Spot
used_one p = record { at = p.at; end = p.end; depth = p.depth; used = p.used + 1; room = p.room }

-- how many turns have begun of the fixed loop at hand at depth d, 0 where no fixed loop is at hand
abbrev pub begun_at : List ℕ → ℕ → ℕ
begun_at room d = get_or room (65 + d) 0

-- n turns of the fixed loop at hand have begun
abbrev pub with_begun : Spot → ℕ → Spot
with_begun p n = record { at = p.at; end = p.end; depth = p.depth; used = p.used; room = set p.room (65 + p.depth) n }

-- out of an arm
abbrev pub left_arm : Spot → Spot
left_arm p = record {
  at = get_or p.room (49 + (p.depth - 1)) 0;
  end = get_or p.room (33 + (p.depth - 1)) 0;
  depth = p.depth - 1;
  used = p.used;
  room = p.room;
}

-- into an arm; an empty one is passed over
unfoldable pub into : Spot → ℕ → ℕ → ℕ → Spot
into p at end back = cond (eqb at end) (skipped p back) (entered p at end back)

-- out of each of n arms that ends here
unfoldable pub settled_by : ℕ → Spot → Spot
settled_by zero p = p
settled_by (suc n) p = cond (eqb p.at p.end) (settled_by n (left_arm p)) p

-- out of every arm that ends here
abbrev pub settled : Spot → Spot
settled p = settled_by p.depth p

-- where a branch or a test of a loop leads on a choice
unfoldable pub chosen : Spot → Fields → ℕ → Spot
chosen p x choice =
    let second = p.at + 1 + first_arm x in
    let next = second + second_arm x in
    let q = used_one p in
    cond (eqb x.kind 6)
    (cond (eqb choice 0) (into q second next next) (into q (p.at + 1) second next))
    (cond (eqb choice 0) (skipped q next) (into q (p.at + 1) second p.at))

-- a turn of a fixed loop begins: after the last one the run goes on past the loop
unfoldable pub turned : Spot → Fields → Spot
turned p x =
    let second = p.at + 1 + first_arm x in
    let n = begun_at p.room p.depth in
    cond (eqb (x.q - n) 1)
    (into (with_begun p 0) (p.at + 1) second second)
    (into (with_begun p (n + 1)) (p.at + 1) second p.at)

-- a block of whose first record, if it is a fixed loop, n turns more have begun
abbrev pub after_turns : ℕ → Block Action → Block Action
after_turns n Block.done = Block.done
after_turns n (Block.act r x b) = Block.act r x b
after_turns n (Block.branch r x y b) = Block.branch r x y b
after_turns n (Block.loop r x b) = Block.loop r x b
after_turns n (Block.fixed r m x b) = Block.fixed r (m - n) x b

-- what is left of the records r up to `end` at depth d
unfoldable pub left_in : List ℕ → List ℕ → ℕ → ℕ → ℕ → Block Action
left_in f room d r end = after_turns (begun_at room d) (block_between f r end)

-- what is left behind the innermost of `depth` arms
unfoldable pub rest_of : List ℕ → List ℕ → ℕ → Block Action
rest_of f room zero = Block.done
rest_of f room (suc d) = left_in f room d (get_or room (49 + d) 0) (get_or room (33 + d) 0) then rest_of f room d

-- what is left at a place
unfoldable pub left_of : List ℕ → Spot → Block Action
left_of f p = left_in f p.room p.depth p.at p.end then rest_of f p.room p.depth

-- how many steps a block takes at most that take no choice: it falls with each of them
abbrev pub weight : Block Action → ℕ
weight Block.done = 0
weight (Block.act r x b) = 1 + weight b
weight (Block.branch r x y b) = 1 + weight b
weight (Block.loop r x b) = 1 + weight b
weight (Block.fixed r n x b) = (n + 1) * (1 + weight x) + weight b

-- the records r up to `end`, inside d branches and loops, are part of the plan; `around` is the product of the counts of the fixed loops that hold them
pub record Part (f : List ℕ) (d r end : ℕ) : Type 0 where
  pub around : ℕ
  pub some : 1 ≤ around
  pub good : Good f 0 d around r end
  pub order : r ≤ end
  pub inside : end ≤ record_count f

-- if n turns have begun, a fixed loop of more turns is at hand
abbrev pub Begun : List ℕ → ℕ → ℕ → ℕ → Type 0
Begun f n r end = 0 < n → (r < end) × ((fields_at f r).kind ≡ 9) × (n < (fields_at f r).q)

-- each of `depth` arms goes on in such a part
unfoldable pub Parts : List ℕ → List ℕ → ℕ → Type 0
Parts f room zero = Unit {0}
Parts f room (suc d) = Part f d (get_or room (49 + d) 0) (get_or room (33 + d) 0) × Begun f (begun_at room d) (get_or room (49 + d) 0) (get_or room (33 + d) 0) × Parts f room d

-- a place in the plan
pub record Placed (f : List ℕ) (p : Spot) : Type 0 where
  pub size : length p.room ≡ 81
  pub here : Part f p.depth p.at p.end
  pub begun : Begun f (begun_at p.room p.depth) p.at p.end
  pub behind : Parts f p.room p.depth
  pub shallow : p.depth ≤ 16
  -- deeper inside no turn has begun
  pub fresh : (d : ℕ) → p.depth < d → begun_at p.room d ≡ 0
