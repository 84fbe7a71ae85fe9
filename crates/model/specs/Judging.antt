-- Declared plans, and the rules that the judge holds a pass to (document 01, 'The plan file' and 'Judging and expanding'; document 02,
-- request a).
use Rattle.std.specs.Prelude.{ℕ, zero, suc, ◌-◌, ◌≡◌, List, [], ◌∷◌, ◌++◌, Bool, true, false, cond, not, ◌&&◌, ◌||◌, get_or, eqb}
use Rattle.model.specs.Lists.{any, All}
use Rattle.model.specs.Sides.{Side, same_side, Layout, span_of, in_span}
use Rattle.model.specs.Records.{Verb, read, write, copy, need, mark, same_verb, Action, covers}
use Rattle.model.specs.Blocks.{Block}

-- "16 R, 17 W, 18 RW"
pub data Mode : Type 0 where
  R W RW : Mode

-- "R or RW"
abbrev pub R_or_RW : Mode → Bool
R_or_RW R = true
R_or_RW W = false
R_or_RW RW = true

-- "W or RW"
abbrev pub W_or_RW : Mode → Bool
W_or_RW R = false
W_or_RW W = true
W_or_RW RW = true

-- "16 R, 17 W, 18 RW: side and array."
pub record Declaration : Type 0 where
  pub mode : Mode
  pub side : Side
  pub array : ℕ

-- "Its other bodies are passes: declarations first .. then kinds 1 to 7."
pub record Pass : Type 0 where
  pub declarations : List Declaration
  pub body : Block Action

-- "Body 0 of a declared plan has no declarations and holds kinds 6, 7, 8": a block of calls, by the number of the body called; and the
-- bodies from 1 on
pub record DeclaredPlan : Type 0 where
  pub layout : Layout
  pub body0 : Block ℕ
  pub passes : List Pass

-- "8 call: P is a body, 1 to the last": the pass that body b is; one of no records where there is none, which number 8 refuses
abbrev pub pass_of : List Pass → ℕ → Pass
pass_of passes b = get_or passes (b - 1) (record { declarations = []; body = Block.done })

-- "In a pass each array is declared at most once."
abbrev pub declared_once : List Declaration → Bool
declared_once [] = true
declared_once (d ∷ ds) = not (any (λ (e : Declaration). eqb e.array d.array) ds) && declared_once ds

-- the modes that a record of a pass needs: "A read needs R or RW of its array on its side, a write W or RW."
abbrev pub allowed_by : Verb → Mode → Bool
allowed_by read m = R_or_RW m
allowed_by write m = W_or_RW m
-- "Kinds 3, 4, 5 are barred."
allowed_by copy m = false
allowed_by need m = false
allowed_by mark m = false

-- whether the declarations allow a record
abbrev pub permits : List Declaration → Action → Bool
permits ds x =
    any (λ (d : Declaration). allowed_by x.verb d.mode && (same_side d.side x.side && eqb d.array x.name)) ds

-- whether every record of a block, those of its arms included, passes the test
abbrev pub every_record : (Action → Bool) → Block Action → Bool
every_record f Block.done = true
every_record f (Block.act r x b) = f x && every_record f b
every_record f (Block.branch r x y b) = every_record f x && (every_record f y && every_record f b)
every_record f (Block.loop r x b) = every_record f x && every_record f b
every_record f (Block.fixed r n x b) = every_record f x && every_record f b

-- one way through a block: the choices before it, those left after it, and what its records come to, in order. `Leaf` says the same of one
-- record
pub data Way {A B : Type 0} (Leaf : A → List Bool → List Bool → List B → Type 0) : Block A → List Bool → List Bool → List B → Type 0 where
  at_end : {cs : List Bool} → Way Leaf Block.done cs cs []
  passing : {r : ℕ} {x : A} {b : Block A} {cs ds es : List Bool} {v w : List B} →
      Leaf x cs ds v → Way Leaf b ds es w → Way Leaf (Block.act r x b) cs es (v ++ w)
  choosing : {r : ℕ} {x y b : Block A} {c : Bool} {cs ds es : List Bool} {v w : List B} →
      Way Leaf (cond c x y) cs ds v → Way Leaf b ds es w → Way Leaf (Block.branch r x y b) (c ∷ cs) es (v ++ w)
  leaving : {r : ℕ} {x b : Block A} {cs ds : List Bool} {w : List B} → Way Leaf b cs ds w → Way Leaf (Block.loop r x b) (false ∷ cs) ds w
  turning : {r : ℕ} {x b : Block A} {cs ds es : List Bool} {v w : List B} →
      Way Leaf x cs ds v → Way Leaf (Block.loop r x b) ds es w → Way Leaf (Block.loop r x b) (true ∷ cs) es (v ++ w)
  -- the last turn of a fixed loop, and a turn with more to come
  last_turn : {r : ℕ} {x b : Block A} {cs ds es : List Bool} {v w : List B} →
      Way Leaf x cs ds v → Way Leaf b ds es w → Way Leaf (Block.fixed r zero x b) cs es (v ++ w)
  earlier_turn : {r n : ℕ} {x b : Block A} {cs ds es : List Bool} {v w : List B} →
      Way Leaf x cs ds v → Way Leaf (Block.fixed r n x b) ds es w → Way Leaf (Block.fixed r (suc n) x b) cs es (v ++ w)

-- a record of a pass, stops aside, takes no choice and comes to itself
pub data Itself : Action → List Bool → List Bool → List Action → Type 0 where
  itself : {x : Action} {cs : List Bool} → Itself x cs cs (x ∷ [])

-- whether a record writes cell c on side s
abbrev pub writes_cell : Layout → Side → ℕ → Action → Bool
writes_cell layout s c x = same_verb x.verb write && (same_side x.side s && covers layout x c)

-- "every way through the pass, stops aside, writes every cell of the array on that side"
abbrev pub Written : Layout → Block Action → Declaration → Type 0
Written layout b d =
    (c : ℕ) → in_span (span_of layout d.array) c ≡ true →
    (cs ds : List Bool) (w : List Action) → Way Itself b cs ds w → any (writes_cell layout d.side c) w ≡ true

-- the rules for a pass: "declared at most once"; "A read needs R or RW .. Kinds 3, 4, 5 are barred"; "Where W is declared, every way .."
pub record Rules (layout : Layout) (p : Pass) : Type 0 where
  pub once : declared_once p.declarations ≡ true
  pub permitted : every_record (permits p.declarations) p.body ≡ true
  pub written : All (λ (d : Declaration). d.mode ≡ W → Written layout p.body d) p.declarations

-- "Accepted is the judge's answer, given exactly where none of its numbers holds"; "Passes that nobody calls are judged too."
abbrev pub Accepts : DeclaredPlan → Type 0
Accepts plan = All (Rules plan.layout) plan.passes

-- `Written` of one cell, as a test that computes
abbrev pub always_writes : Layout → Side → ℕ → Block Action → Bool
always_writes layout s c Block.done = false
always_writes layout s c (Block.act r x b) = writes_cell layout s c x || always_writes layout s c b
always_writes layout s c (Block.branch r x y b) = (always_writes layout s c x && always_writes layout s c y) || always_writes layout s c b
always_writes layout s c (Block.loop r x b) = always_writes layout s c b
-- "A write inside it meets a W like one outside."
always_writes layout s c (Block.fixed r n x b) = always_writes layout s c x || always_writes layout s c b

-- the same of n cells, from cell c on
unfoldable pub all_written : Layout → Side → Block Action → ℕ → ℕ → Bool
all_written layout s body c zero = true
all_written layout s body c (suc n) = always_writes layout s c body && all_written layout s body (suc c) n
