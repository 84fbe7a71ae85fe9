-- No promise of an entry point rests on this text: the records that concern a cell, and a table that leads from each place to the first of
-- them.
use Rattle.std.specs.Prelude.{ℕ, ◌+◌, ◌≤◌, ◌<◌, ◌≡◌, Bool, cond, ◌&&◌, ◌||◌, List, eqb, leb, ltb, length, get_or}
use Rattle.model.specs.Sides.{span_of}
use Rattle.model.specs.Records.{distance, stepped}
use Rattle.reading.specs.declared.Fields.{Fields}
use Rattle.format.specs.Inner.Walks.{Plain}
use Rattle.lookahead.specs.declared.PlainPlan.{PlainPlan}
use Rattle.reading.specs.Bytes.{layout_of, record_count, fields_at, first_arm, second_arm}

-- the number of cell `offset` of an array
abbrev pub cell_at : List ℕ → ℕ → ℕ → ℕ
cell_at f array offset = (span_of (layout_of f) array).first + offset

-- whether a record of kind 1 to 5 covers cell `offset` of an array
unfoldable pub covers : Fields → ℕ → ℕ → Bool
covers x array offset = eqb array x.array && (leb 4 x.kind || stepped (distance x.step) x.p x.q offset)

-- the first record from r on that concerns the cell, where `next` is the first one after r: a record that covers it, or a branch or loop
-- that holds one which does
abbrev pub nearest : Fields → ℕ → ℕ → ℕ → ℕ → ℕ
nearest x array offset r next =
    cond (leb 6 x.kind) (cond (ltb next (r + 1 + first_arm x + second_arm x)) r next) (cond (covers x array offset) r next)

-- the plan's file opens and its plan is plain, and its bodies and records are where and as many as is said
pub record IsPlain (p : PlainPlan) : Type 0 where
  pub plain : Plain p.file.now p.bodies
  pub counted : p.records ≡ record_count p.file.now

-- the table has an entry for each record, and behind them one that says that there is none: the number of the records
pub record Spare (f : List ℕ) (ahead : List ℕ) : Type 0 where
  pub long : record_count f < length ahead
  pub last : get_or ahead (record_count f) 0 ≡ record_count f

-- from record `from` on, its entries are the first records from there on that concern the cell
pub record Ahead (f : List ℕ) (array offset from : ℕ) (ahead : List ℕ) : Type 0 where
  pub spare : Spare f ahead
  pub next : (k : ℕ) → from ≤ k → k < record_count f → get_or ahead k 0 ≡ nearest (fields_at f k) array offset k (get_or ahead (k + 1) 0)
