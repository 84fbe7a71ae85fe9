-- No promise of an entry point rests on this text: where a pass stands.
use Rattle.std.specs.Prelude.{ℕ, ◌+◌, ◌-◌, ◌≤◌, ◌<◌, true, ◌≡◌, List, get_or}
use Rattle.model.specs.Verdicts.{Accepted}
use Rattle.reading.specs.Bytes.{is_declared, body_count, records_in, declarations_in, first_record, bodies_at}
use Rattle.contents.specs.declared.Opened.{Opened}
use Rattle.format.specs.Opening.{opening}
use Rattle.passes.specs.declared.Extent.{Extent}

-- where body b stands, by what opening found
abbrev pub extent_of : Opened → ℕ → Extent
extent_of o b =
    let from = get_or o.body_starts b 0 in
    record {
      bodies = o.offset;
      body = b;
      from = from;
      declarations = get_or o.declarations b 0;
      records = get_or o.body_starts (b + 1) 0 - from;
    }

-- the file opens as a declared plan, and its pass of that number stands there
pub record PassAt (f : List ℕ) (e : Extent) : Type 0 where
  pub opens : Accepted ≡ opening f
  pub declared : is_declared f ≡ true
  pub place : e.bodies ≡ bodies_at f
  pub low : 1 ≤ e.body
  pub high : e.body < body_count f
  pub from_is : e.from ≡ first_record f e.body
  pub declarations_are : e.declarations ≡ declarations_in f e.body
  pub records_are : e.records ≡ records_in f e.body
