-- The plan that a file is, for a file that opens: from its records to the blocks of `model`.
use Rattle.std.specs.Prelude.{ℕ, zero, suc, ◌+◌, ◌-◌, cond, List, ltb, eqb}
use Rattle.model.specs.Sides.{Side, host, card}
use Rattle.model.specs.Records.{Verb, read, write, copy, need, mark, Action}
use Rattle.model.specs.Blocks.{Block, Plan}
use Rattle.model.specs.Judging.{R, W, RW, Declaration, Pass, DeclaredPlan}
use Rattle.reading.specs.declared.Fields.{Fields}
use Rattle.reading.specs.Bytes.{body_count, table, layout_of, records_in, declarations_in, first_record, record_count, fields_at, first_arm, second_arm}

-- "Side 0 is the host, side 1 the card."
abbrev pub side_of : ℕ → Side
side_of s = cond (eqb s 0) host card

-- "1 read, 2 write, 3 copy", "4 need, 5 mark"
abbrev pub verb_of : ℕ → Verb
verb_of k = cond (eqb k 1) read (cond (eqb k 2) write (cond (eqb k 3) copy (cond (eqb k 4) need mark)))

-- a record of kinds 1 to 5, by its fields
unfoldable pub action_of : Fields → Action
action_of x = record { verb = verb_of x.kind; side = side_of x.side; name = x.array; step = x.step; p = x.p; q = x.q }

-- "16 R, 17 W, 18 RW: side and array"
unfoldable pub declaration_of : Fields → Declaration
declaration_of x = record { mode = cond (eqb x.kind 16) R (cond (eqb x.kind 17) W RW); side = side_of x.side; array = x.array }

-- the block of the records r up to `end`, where record r has the fields `g r`, and `leaf` says what a record is that is neither branch nor
-- loop: an action or a call (`fuel` is at least the number of records); of the "Q turns" of a fixed loop Q − 1 come after the first
unfoldable pub block_of : {A : Type 0} → (Fields → A) → ℕ → (ℕ → Fields) → ℕ → ℕ → Block A
block_of leaf zero g r end = Block.done
block_of leaf (suc fuel) g r end =
    let second = r + 1 + first_arm (g r) in
    let next = second + second_arm (g r) in
    let rest = block_of leaf fuel g next end in
    cond (ltb r end)
    (cond (eqb (g r).kind 6) (Block.branch r (block_of leaf fuel g (r + 1) second) (block_of leaf fuel g second next) rest)
    (cond (eqb (g r).kind 7) (Block.loop r (block_of leaf fuel g (r + 1) second) rest)
    (cond (eqb (g r).kind 9) (Block.fixed r ((g r).q - 1) (block_of leaf fuel g (r + 1) second) rest)
    (Block.act r (leaf (g r)) rest))))
    Block.done

-- body b as a pass: "declarations first, as many as the contents say", then its other records
unfoldable pub pass_at : List ℕ → ℕ → Pass
pass_at f b =
    let r = first_record f b in
    let n = declarations_in f b in
    record {
      declarations = table (λ i. declaration_of (fields_at f (r + i))) n;
      body = block_of action_of (records_in f b) (fields_at f) (r + n) (r + records_in f b);
    }

-- the plain plan of a file of kind 2
unfoldable pub plan_of : List ℕ → Plan
plan_of f = record { layout = layout_of f; body = block_of action_of (record_count f) (fields_at f) 0 (record_count f) }

-- the declared plan of a file of kind 1; "8 call: P is a body"
unfoldable pub declared_plan_of : List ℕ → DeclaredPlan
declared_plan_of f = record {
  layout = layout_of f;
  body0 = block_of (λ (x : Fields). x.p) (records_in f 0) (fields_at f) 0 (records_in f 0);
  passes = table (λ b. pass_at f (suc b)) (body_count f - 1);
}
