-- No promise of an entry point rests on this text: bytes written at the front of a lent part, and the declarations that are written.
use Rattle.std.specs.Prelude.{ℕ, ◌+◌, ◌≤◌, ◌<◌, List, ◌++◌, length, drop}
use Rattle.reading.specs.declared.Fields.{Fields}
use Rattle.reading.specs.Bytes.{fields_at}
use Rattle.files.specs.Files.{record_bytes}
use Rattle.model.specs.Lists.{chain}

-- n declarations, from record r on
pub record DeclarationsAt (f : List ℕ) (r n : ℕ) : Type 0 where
  pub few : r + n ≤ 1024
  pub sides : (i : ℕ) → i < n → (fields_at f (r + i)).side < 2

-- new bytes over the front of the old ones
unfoldable pub over : List ℕ → List ℕ → List ℕ
over new old = new ++ drop (length new) old

-- the bytes of records, one after the other
unfoldable pub bytes_of : List Fields → List ℕ
bytes_of l = chain record_bytes l
