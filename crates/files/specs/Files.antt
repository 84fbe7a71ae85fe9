-- From a plain plan back to the bytes of its file (document 01, 'The plan file'; document 02, requests a, c and f).
use Rattle.std.specs.Prelude.{ℕ, suc, ◌+◌, ◌/◌, ◌%◌, ◌^◌, cond, List, [], ◌∷◌, ◌++◌, length, get_or}
use Rattle.model.specs.Lists.{chain}
use Rattle.model.specs.Sides.{side_number, Layout, is_scratch}
use Rattle.model.specs.Records.{kind, Action}
use Rattle.model.specs.Blocks.{Block, size, Plan}
use Rattle.reading.specs.declared.Fields.{Fields}
use Rattle.reading.specs.Bytes.{table}
use Rattle.sums.specs.Sums.{check_bytes}

-- "Numbers of two bytes have the low byte first."
abbrev pub u16_bytes : ℕ → List ℕ
u16_bytes n = n % 256 ∷ n / 256 ∷ []

-- "A record: kind, side, array, zero, then two numbers of two bytes, P and Q."
abbrev pub record_bytes : Fields → List ℕ
record_bytes x = x.kind ∷ x.side ∷ x.array ∷ x.step ∷ (u16_bytes x.p ++ u16_bytes x.q)

-- a record from its fields, without a step
abbrev pub fields : ℕ → ℕ → ℕ → ℕ → ℕ → Fields
fields kind side array p q = record { kind = kind; side = side; array = array; step = 0; p = p; q = q }

-- "1 read, 2 write, 3 copy .. 4 need, 5 mark"
abbrev pub action_fields : Action → Fields
action_fields x =
    record { kind = kind x.verb; side = side_number x.side; array = x.name; step = x.step; p = x.p; q = x.q }

-- "6 branch: P records of the first arm, then Q of the second. 7 loop: P records.", 9 "P records, Q turns"; any other record by `leaf`
abbrev pub fields_of : {A : Type 0} → (A → Fields) → Block A → List Fields
fields_of leaf Block.done = []
fields_of leaf (Block.act r x b) = leaf x ∷ fields_of leaf b
fields_of leaf (Block.branch r x y b) = fields 6 0 0 (size x) (size y) ∷ (fields_of leaf x ++ (fields_of leaf y ++ fields_of leaf b))
fields_of leaf (Block.loop r x b) = fields 7 0 0 (size x) 0 ∷ (fields_of leaf x ++ fields_of leaf b)
fields_of leaf (Block.fixed r n x b) = fields 9 0 0 (size x) (suc n) ∷ (fields_of leaf x ++ fields_of leaf b)

-- a body of a file: how many of its records are declarations, and its records
pub record Body : Type 0 where
  pub declarations : ℕ
  pub records : List Fields

-- "per body four bytes: its records (two bytes ..), its declarations (one byte), zero"
abbrev pub entry_bytes : Body → List ℕ
entry_bytes b = u16_bytes (length b.records) ++ (b.declarations ∷ 0 ∷ [])

-- an array's entry: "its length in two bytes", whose highest bit marks scratch
abbrev pub array_entry : Layout → ℕ → ℕ
array_entry layout a = get_or layout.lengths a 0 + cond (is_scratch layout a) (2 ^ 15) 0

-- header and contents
abbrev pub front : ℕ → Layout → List Body → List ℕ
front kind layout bodies =
    let arrays = length layout.lengths in
    kind ∷ arrays ∷ length bodies ∷ 0 ∷ (chain u16_bytes (table (array_entry layout) arrays) ++ chain entry_bytes bodies)

-- "Then the bodies, body 0 first, eight bytes a record. Last two check bytes"
unfoldable pub file : ℕ → Layout → List Body → List ℕ
file kind layout bodies =
    let s = front kind layout bodies ++ chain (λ (b : Body). chain record_bytes b.records) bodies in
    s ++ check_bytes s

-- the file of a plain plan
abbrev pub plain_file : Plan → List ℕ
plain_file plan = file 2 plan.layout (record { declarations = 0; records = fields_of action_fields plan.body } ∷ [])
