-- No promise of an entry point rests on this text: what the expansion has for each record of body 0, in the order in which it is written.
use Rattle.std.specs.Prelude.{ℕ, zero, suc, ◌+◌, ◌*◌, ◌-◌, ◌≤◌, cond, List, [], ◌∷◌, ◌++◌, eqb, get_or, take, drop}
use Rattle.reading.specs.declared.Fields.{Fields}
use Rattle.reading.specs.Bytes.{array_count, fields_at, first_arm, second_arm}
use Rattle.files.specs.Files.{u16_bytes, fields}
use Rattle.files.specs.Inner.Short.{block_fields}
use Rattle.sizes.specs.Inner.Sizes.{called, second_field, place}

-- the arms of record r of body 0, with the fields x: where they begin in the expansion rises, and is not past 1,024
pub record Arms (places : List ℕ) (r : ℕ) (x : Fields) : Type 0 where
  pub inside : r + 1 + first_arm x + second_arm x ≤ 1024
  pub one_rises : get_or places (r + 1) 0 ≤ get_or places (r + 1 + first_arm x) 0
  pub two_rises : get_or places (r + 1 + first_arm x) 0 ≤ get_or places (r + 1 + first_arm x + second_arm x) 0
  pub low : get_or places (r + 1 + first_arm x + second_arm x) 0 ≤ 1024

-- Q of that record, of a branch grown to fit
unfoldable pub grown_second : List ℕ → ℕ → Fields → ℕ
grown_second places r x =
    let second = r + 1 + first_arm x in
    second_field x (get_or places (second + second_arm x) 0 - get_or places second 0)

-- that record with its arm counts grown to fit
unfoldable pub nested : List ℕ → ℕ → Fields → Fields
nested places r x = fields x.kind 0 0 (get_or places (r + 1 + first_arm x) 0 - get_or places (r + 1) 0) (grown_second places r x)

-- the records that stand for record r of body 0: those of a call; a branch or a loop with its arm counts grown to fit
unfoldable pub piece : List ℕ → ℕ → List Fields
piece f r =
    let x = fields_at f r in
    let second = r + 1 + first_arm x in
    let next = second + second_arm x in
    cond (eqb x.kind 8) (block_fields (called f x.p))
    (fields x.kind 0 0 (place f second - place f (r + 1)) (second_field x (place f next - place f second)) ∷ [])

-- those that stand for the records before r
unfoldable pub pieces : List ℕ → ℕ → List Fields
pieces f zero = []
pieces f (suc r) = pieces f r ++ piece f r

-- header, the arrays' entries and the entry of one body of n records
unfoldable pub contents_bytes : List ℕ → ℕ → List ℕ
contents_bytes f n = ((2 ∷ array_count f ∷ 1 ∷ 0 ∷ []) ++ take (2 * array_count f) (drop 4 f)) ++ (u16_bytes n ++ (0 ∷ 0 ∷ []))
