-- No promise of an entry point rests on this text: number 15 by a set of marked cells.
use Rattle.std.specs.Prelude.{ℕ, ◌+◌, ◌≤◌, ◌<◌, ◌≡◌, Bool, not, List, [], ◌∷◌, get_or}
use Rattle.model.specs.Rows.{row}
use Rattle.reading.specs.Bytes.{fields_at}
use Rattle.passes.specs.declared.Extent.{Extent}
use Rattle.marks.specs.Inner.Marks.{met}
use Rattle.judge.specs.Judged.{w_rows}

-- the set decides 15 of each declaration of the pass, and its arrays' first cells can be read
pub record Decides (f : List ℕ) (starts : List ℕ) (set : List Bool) (e : Extent) : Type 0 where
  pub fit : (i : ℕ) → i < e.declarations →
      let a = (fields_at f (e.from + i)).array in
      (a < 32) × (get_or starts a 0 ≤ get_or starts (a + 1) 0) × (get_or starts (a + 1) 0 ≤ 4096)
  pub rows : (i : ℕ) → i < e.declarations →
      w_rows f e.body i ≡ (row (not (met starts set (fields_at f (e.from + i)))) 15 (e.from + i) ∷ [])
