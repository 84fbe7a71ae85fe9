-- No promise of an entry point rests on this text: the array that holds a cell.
use Rattle.std.specs.Prelude.{ℕ, suc, ◌-◌, cond, List, [], ◌∷◌, ltb}
use Rattle.model.specs.Sides.{Layout}

-- which of these lengths, one after another, reaches past place c
unfoldable pub holder : List ℕ → ℕ → ℕ
holder [] c = 0
holder (n ∷ l) c = cond (ltb c n) 0 (suc (holder l (c - n)))

-- the array of cell c
abbrev pub array_of : Layout → ℕ → ℕ
array_of layout c = holder layout.lengths c
