-- No promise of an entry point rests on this text: the records of a body, read from the body's own bytes.
use Rattle.std.specs.Prelude.{ℕ, ◌+◌, ◌*◌, ◌≤◌, ◌<◌, ◌≡◌, List, length}
use Rattle.reading.specs.declared.Fields.{Fields}
use Rattle.reading.specs.Bytes.{byte_at, u16_at, fields_at}
use Rattle.format.specs.Inner.Walks.{Walkable}

-- the fields of record i of a body with these bytes
unfoldable pub fields_in : List ℕ → ℕ → Fields
fields_in body i =
    let at = 8 * i in
    record {
      kind = byte_at body at;
      side = byte_at body (at + 1);
      array = byte_at body (at + 2);
      step = byte_at body (at + 3);
      p = u16_at body (at + 4);
      q = u16_at body (at + 6);
    }

-- the records `from` up to `end` of a body, which are those of a plan from record `first` on, can be walked, and stand in its bytes
pub record Listable (body : List ℕ) (first from end : ℕ) : Type 0 where
  pub long : 8 * end ≤ length body
  pub plan : List ℕ
  pub walks : Walkable plan (first + from) (first + end)
  pub same : (i : ℕ) → i < end → fields_in body i ≡ fields_at plan (first + i)
