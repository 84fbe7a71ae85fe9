-- The choice bytes of a run (document 01, 'Running and viewing').
use Rattle.std.specs.Prelude.{ℕ, Bool, not, List, map, eqb}

-- "and choice bytes", "nonzero meaning first arm or one more turn"
abbrev pub choices_of : List ℕ → List Bool
choices_of bytes = map (λ (b : ℕ). not (eqb b 0)) bytes
