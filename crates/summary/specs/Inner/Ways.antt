-- No promise of an entry point rests on this text: what the walk of one cell through a block finds, and the rows that it keeps.
use Rattle.std.specs.Prelude.{ℕ, ◌+◌, ◌-◌, ◌*◌, ◌≤◌, ◌<◌, ◌≡◌, ◌↔◌, cond, List, eqb, length, get_or, Option}
use Rattle.model.specs.declared.Record.{Record}
use Rattle.model.specs.Sides.{span_of}
use Rattle.model.specs.Records.{Action}
use Rattle.model.specs.Blocks.{Block, done, branch, loop, fixed}
use Rattle.model.specs.Inner.Statuses.{Status}
use Rattle.model.specs.Inner.Stops.{Goes, Stops}
use Rattle.reading.specs.declared.Fields.{Fields}
use Rattle.reading.specs.Bytes.{layout_of, record_count, fields_at, first_arm}
use Rattle.format.specs.Inner.Walks.{Plain, Walkable, block_between}
use Rattle.statuses.specs.declared.acts.Found.{Found}
use Rattle.statuses.specs.Inner.Ran.{Below, Ran}
use Rattle.lookahead.specs.Inner.Ahead.{cell_at, Ahead}
use Rattle.statuses.specs.Inner.Sets.{statuses, index, In, number_of}
use Rattle.summary.specs.declared.Arm.{Arm}
use Rattle.summary.specs.declared.Row.{Row}
use Rattle.summary.specs.declared.Walk.{Walk}

-- the body of loop k
abbrev pub body_of : List ℕ → ℕ → Block Action
body_of f k = block_between f (k + 1) (k + 1 + first_arm (fields_at f k))

-- a row of no class
abbrev pub blank : Row
blank = record { class = 0; exits = 0 }

-- g has the exits of the body of loop k from status w, and `low` is at most each of its stops
pub record Kept (f : List ℕ) (c low k w g : ℕ) : Type 0 where
  pub exits : (v : Status) → In g v ↔ ((u : Status) × (index u ≡ w) × Goes (layout_of f) c (body_of f k) u v)
  pub least : (u : Status) (r : ℕ) → index u ≡ w → Stops (layout_of f) c (body_of f k) u r → Below low r

-- the table has a row for each record and status, and no row is of a later class
pub record Room (f : List ℕ) (class : ℕ) (rows : List Row) : Type 0 where
  pub long : 16 * record_count f ≤ length rows
  pub old : (i : ℕ) → (get_or rows i blank).class ≤ class

-- the rows of this class are right
pub record Exact (f : List ℕ) (c class : ℕ) (rows : List Row) (low : ℕ) : Type 0 where
  pub row : (k w : ℕ) → w < statuses → (get_or rows (16 * k + w) blank).class ≡ class → Kept f c low k w (get_or rows (16 * k + w) blank).exits
  pub room : Room f class rows

-- the cell that a class is named after: a class is one more than the number of its first cell, and a blank row is of none
abbrev pub cell_of : ℕ → ℕ
cell_of class = class - 1

-- the walk of that cell can begin, which is cell `offset` of an array
pub record Ready (walk : Walk) (rows : List Row) (low : Option Record) : Type 0 where
  pub plain : Plain walk.plan.file.now walk.plan.bodies
  pub array : ℕ
  pub offset : ℕ
  pub is : cell_of walk.class ≡ cell_at walk.plan.file.now array offset
  pub inside : offset < (span_of (layout_of walk.plan.file.now) array).length
  pub leads : Ahead walk.plan.file.now array offset 0 walk.ahead.now
  pub exact : Exact walk.plan.file.now (cell_of walk.class) walk.class rows (number_of low)

-- the body of a loop, or the first arm of a branch, ends where it is said to end
pub record Body (f : List ℕ) (arm : Arm) : Type 0 where
  pub ends : arm.second ≡ arm.r + 1 + first_arm (fields_at f arm.r)
  pub below : arm.second ≤ record_count f
  pub walk : Walkable f (arm.r + 1) arm.second

-- a branch, a fixed loop or a loop, by the fields x of record r; of the Q turns of a fixed loop Q − 1 come after the first
abbrev pub nest : Fields → ℕ → Block Action → Block Action → Block Action
nest x r a b = cond (eqb x.kind 6) (branch r a b done) (cond (eqb x.kind 9) (fixed r (x.q - 1) a done) (loop r a done))

-- t is what is found of the ways through block b, and the rows are exact again
pub record Passed (f : List ℕ) (c class : ℕ) (b : Block Action) (from : Status → Type 0) (low : Option Record) (rows : List Row) (t : Found) : Type 0 where
  pub ran : Ran (Goes (layout_of f) c b) (Stops (layout_of f) c b) from low t
  pub exact : Exact f c class rows (number_of t.low)

-- the same of a walk
abbrev pub Walked : Walk → Block Action → (Status → Type 0) → Option Record → List Row → Found → Type 0
Walked walk = Passed walk.plan.file.now (cell_of walk.class) walk.class
