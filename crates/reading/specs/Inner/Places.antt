-- No promise of an entry point rests on this text: what those who read records ask of the file.
use Rattle.std.specs.Prelude.{ℕ, ◌+◌, ◌*◌, ◌≤◌, ◌≡◌, List, length}
use Rattle.reading.specs.Bytes.{bodies_at}

-- the bodies of the file begin at `bodies`, and its records before `end` stand inside it
pub record Inside (f : List ℕ) (bodies end : ℕ) : Type 0 where
  pub place : bodies ≡ bodies_at f
  pub room : bodies + 8 * end ≤ length f
