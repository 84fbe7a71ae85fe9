-- The parts of a plan file, by their places in its bytes (document 01, 'The plan file'; document 02, requests a, c and f).
use Rattle.std.specs.Prelude.{ℕ, zero, suc, ◌+◌, ◌*◌, ◌%◌, ◌^◌, Bool, cond, ◌&&◌, ◌||◌, List, [], ◌∷◌, ◌++◌, get_or, leb, eqb}
use Rattle.model.specs.Lists.{sum_before}
use Rattle.model.specs.Sides.{Layout}
use Rattle.reading.specs.declared.Fields.{Fields}

-- byte i of the file, 0 past its end
abbrev pub byte_at : List ℕ → ℕ → ℕ
byte_at f i = get_or f i 0

-- "Numbers of two bytes have the low byte first."
unfoldable pub u16_at : List ℕ → ℕ → ℕ
u16_at f i = byte_at f i + byte_at f (i + 1) * 256

-- "Byte 0: kind"
abbrev pub kind_of : List ℕ → ℕ
kind_of f = byte_at f 0

-- "1 declared, 2 plain"
abbrev pub is_declared : List ℕ → Bool
is_declared f = eqb (kind_of f) 1

abbrev pub is_plain : List ℕ → Bool
is_plain f = eqb (kind_of f) 2

-- "Byte 1: arrays"
abbrev pub array_count : List ℕ → ℕ
array_count f = byte_at f 1

-- "Byte 2: bodies"
abbrev pub body_count : List ℕ → ℕ
body_count f = byte_at f 2

-- g 0, g 1, .. below n
unfoldable pub table : {A : Type 0} → (ℕ → A) → ℕ → List A
table g zero = []
table g (suc n) = table g n ++ (g n ∷ [])

-- "Contents: per array its length in two bytes"; "Number 4 reads the length without that bit." (document 02)
unfoldable pub length_at : List ℕ → ℕ → ℕ
length_at f a = u16_at f (4 + 2 * a) % 2 ^ 15

-- "The highest bit of an array's length now marks scratch" (document 02)
unfoldable pub scratch_at : List ℕ → ℕ → Bool
scratch_at f a = leb (2 ^ 15) (u16_at f (4 + 2 * a))

-- the lengths of all arrays
unfoldable pub lengths_of : List ℕ → List ℕ
lengths_of f = table (length_at f) (array_count f)

-- which of them are scratch
unfoldable pub scratch_of : List ℕ → List Bool
scratch_of f = table (scratch_at f) (array_count f)

-- what the contents say of the arrays
abbrev pub layout_of : List ℕ → Layout
layout_of f = record { lengths = lengths_of f; scratch = scratch_of f }

-- "per body four bytes: its records (two bytes ..), its declarations (one byte), zero": where body b's entry stands
unfoldable pub entry_at : List ℕ → ℕ → ℕ
entry_at f b = 4 + 2 * array_count f + 4 * b

-- "its records (two bytes ..)"
abbrev pub records_in : List ℕ → ℕ → ℕ
records_in f b = u16_at f (entry_at f b)

-- "its declarations (one byte)"
abbrev pub declarations_in : List ℕ → ℕ → ℕ
declarations_in f b = byte_at f (entry_at f b + 2)

-- "Records are numbered from 0 through all bodies in order": the records of each body
unfoldable pub sizes_of : List ℕ → List ℕ
sizes_of f = table (records_in f) (body_count f)

-- the number of body b's first record
abbrev pub first_record : List ℕ → ℕ → ℕ
first_record f b = sum_before (sizes_of f) b

-- the records of all bodies
abbrev pub record_count : List ℕ → ℕ
record_count f = first_record f (body_count f)

-- "Then the bodies, body 0 first, eight bytes a record."
abbrev pub bodies_at : List ℕ → ℕ
bodies_at f = entry_at f (body_count f)

-- "A record: kind, side, array, zero, then two numbers of two bytes, P and Q."
unfoldable pub fields_at : List ℕ → ℕ → Fields
fields_at f r =
    let i = bodies_at f + 8 * r in
    record {
      kind = byte_at f i;
      side = byte_at f (i + 1);
      array = byte_at f (i + 2);
      step = byte_at f (i + 3);
      p = u16_at f (i + 4);
      q = u16_at f (i + 6);
    }

-- low ≤ x ≤ high
abbrev pub between : ℕ → ℕ → ℕ → Bool
between low high x = leb low x && leb x high

-- whether a record has arms or a body: a branch, a loop, and "kind 9, wherever kind 7 may stand" (document 02), a fixed loop
abbrev pub nests : Fields → Bool
nests x = between 6 7 x.kind || eqb x.kind 9

-- the records of the first arm, none where the kind has no arm
unfoldable pub first_arm : Fields → ℕ
first_arm x = cond (nests x) x.p 0

-- the records of the second arm, which a branch alone has
unfoldable pub second_arm : Fields → ℕ
second_arm x = cond (eqb x.kind 6) x.q 0

-- "Q turns": those of a fixed loop, 1 of any other record
unfoldable pub turns_of : Fields → ℕ
turns_of x = cond (eqb x.kind 9) x.q 1
