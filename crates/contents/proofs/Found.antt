-- What opening finds in a file, entry by entry.
use mathlib.Core.Path.{◌≡◌, ap, ◌∙◌}
use mathlib.Core.Bool.{cond}
use mathlib.Core.List.{List}
use Prim.Native.Nat.{ℕ, suc, ◌+◌, ◌≤◌, ◌<◌}
use native.Mathlib.Numerals.{add-one}
use native.Mathlib.Omega.{arith}
use lib.Dec.{ltb, leb}
use lib.ListN.{get_or}
use borrow.Author.Tests.{lt-ltb, le-leb}
use Rattle.model.specs.Sides.{span_of}
use Rattle.reading.specs.Bytes.{array_count, body_count, layout_of, records_in, declarations_in, sizes_of, first_record, record_count}
use Rattle.reading.specs.Inner.Places.{Inside}
use Rattle.reading.proofs.Tables.{getD_table, first_rises, next_record}
use Rattle.contents.specs.declared.Opened.{Opened}
use Rattle.contents.specs.Found.{found}
use Rattle.contents.proofs.Bounds.{Bounds}

-- where body b stands, by what was found
pub record BodyAt (f : List ℕ) (o : Opened) (b : ℕ) : Type 0 where
  pub few : b < 32
  pub from_is : get_or o.body_starts b 0 ≡ first_record f b
  pub end_is : get_or o.body_starts (b + 1) 0 ≡ first_record f b + records_in f b
  pub declarations_are : get_or o.declarations b 0 ≡ declarations_in f b
  pub declared : declarations_in f b ≤ records_in f b
  pub within : first_record f b + records_in f b ≤ record_count f
  pub low : record_count f ≤ 1024
  pub inside : Inside f o.offset (record_count f)

module _ (f : List ℕ) (o : Opened) (e : o ≡ found f) (w : Bounds f) where
  pub array_start : (a : ℕ) → a ≤ array_count f → get_or o.array_starts a 0 ≡ (span_of (layout_of f) a).first
  array_start a h = rw (e, getD_table (λ k. cond (leb k (array_count f)) (span_of (layout_of f) k).first 0) 33 a 0 (omega (arith, w.header.arrays)), le-leb a (array_count f) h)

  pub body_start : (b : ℕ) → b ≤ body_count f → get_or o.body_starts b 0 ≡ first_record f b
  body_start b h = rw (e, getD_table (λ k. cond (leb k (body_count f)) (first_record f k) 0) 33 b 0 (omega (arith, w.header.bodies)), le-leb b (body_count f) h)

  pub declarations_at : (b : ℕ) → b < body_count f → get_or o.declarations b 0 ≡ declarations_in f b
  declarations_at b h = rw (e, getD_table (λ k. cond (ltb k (body_count f)) (declarations_in f k) 0) 32 b 0 (omega (arith, w.header.bodies)), lt-ltb b (body_count f) h)

  pub all_inside : Inside f o.offset (record_count f)
  all_inside = let n = ap (λ x. x.offset) e in record { place = n; room = omega (arith, w.long) }

  pub body_at : (b : ℕ) → b < body_count f → BodyAt f o b
  body_at b h = record {
    few = omega (arith, w.header.bodies);
    from_is = body_start b (omega arith);
    end_is = body_start (b + 1) (omega arith) ∙ rw add-one (next_record f b h);
    declarations_are = declarations_at b h;
    declared = w.declared b h;
    within = omega (arith, next_record f b h, first_rises (sizes_of f) (suc b) (body_count f) h);
    low = w.records;
    inside = all_inside;
  }
