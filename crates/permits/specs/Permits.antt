-- Numbers 12 to 14, of a pass by record (document 01, 'Numbers by the place where each is checked' and 'Judging and expanding').
use Rattle.std.specs.Prelude.{ℕ, ◌+◌, Bool, cond, not, ◌&&◌, List, [], ◌∷◌, ltb, eqb}
use Rattle.model.specs.Lists.{any}
use Rattle.model.specs.Judging.{Declaration, permits}
use Rattle.model.specs.Rows.{Row, row}
use Rattle.reading.specs.Bytes.{table, declarations_in, first_record, fields_at, between}
use Rattle.format.specs.Plans.{action_of, declaration_of, pass_at}

-- "12 second declaration of an array": declaration i of pass b has the array of an earlier one
unfoldable pub declared_before : List ℕ → ℕ → ℕ → Bool
declared_before f b i =
    let r = first_record f b in
    any (λ (d : Declaration). eqb d.array (declaration_of (fields_at f (r + i))).array) (table (λ j. declaration_of (fields_at f (r + j))) i)

-- the rows of record i of pass b: "12 second declaration of an array; 13 a read or write undeclared; 14 kind 3, 4 or 5"
unfoldable pub permit_rows : List ℕ → ℕ → ℕ → List Row
permit_rows f b i =
    let r = first_record f b + i in
    let x = fields_at f r in
    let permitted = permits (pass_at f b).declarations (action_of x) in
    cond (ltb i (declarations_in f b))
    (row (declared_before f b i) 12 r ∷ [])
    (row (between 1 2 x.kind && not permitted) 13 r
    ∷ row (between 3 5 x.kind) 14 r ∷ [])
