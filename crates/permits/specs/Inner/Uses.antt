-- No promise of an entry point rests on this text: the declarations of a pass by array, and a record against them.
use Rattle.std.specs.Prelude.{ℕ, zero, suc, ◌+◌, ◌<◌, ◌≡◌, Bool, false, cond, not, ◌&&◌, ◌||◌, List, [], ◌∷◌, length, get_or, eqb, Option, None, Some}
use Rattle.model.specs.Verdicts.{Accepted}
use Rattle.reading.specs.declared.Fields.{Fields}
use Rattle.model.specs.Rows.{Row, row, answer_of, all_rows}
use Rattle.reading.specs.Bytes.{fields_at, between}
use Rattle.marks.specs.declared.Declaration.{Declaration}
use Rattle.passes.specs.declared.Extent.{Extent}
use Rattle.permits.specs.Permits.{permit_rows}

-- the last declaration of array a among the n declarations from record r on, if there is one
unfoldable pub last_declared : List ℕ → ℕ → ℕ → ℕ → Option Declaration
last_declared f r zero a = None
last_declared f r (suc n) a = let x = fields_at f (r + n) in cond (eqb x.array a) (Some (record { kind = x.kind; side = x.side })) (last_declared f r n a)

-- what is said of each array is what the first n declarations from record r on say
pub record Says (f : List ℕ) (r n : ℕ) (declared : List (Option Declaration)) : Type 0 where
  pub size : length declared ≡ 32
  pub each : (a : ℕ) → a < 32 → get_or declared a None ≡ last_declared f r n a

-- no array of the pass is declared twice, and these are its declarations by array
pub record ByArray (f : List ℕ) (e : Extent) (declared : List (Option Declaration)) : Type 0 where
  pub once : Accepted ≡ answer_of (all_rows e.declarations (permit_rows f e.body))
  pub says : Says f e.from e.declarations declared

-- whether a read or write with the fields x is declared, by what is declared of its array
unfoldable pub permitted : Fields → Option Declaration → Bool
permitted x None = false
permitted x (Some d) = ((eqb x.kind 1 && eqb d.kind 16) || (eqb x.kind 2 && eqb d.kind 17) || eqb d.kind 18) && eqb d.side x.side

-- numbers 13 and 14 of record r with the fields x
unfoldable pub use_rows : ℕ → Fields → Option Declaration → List Row
use_rows r x declared =
    row (between 1 2 x.kind && not (permitted x declared)) 13 r
    ∷ row (between 3 5 x.kind) 14 r
    ∷ []
