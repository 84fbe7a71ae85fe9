-- Words on lists, and one on places in memory, for the definitions after them.
use Rattle.std.specs.Prelude.{ℕ, zero, suc, ◌+◌, Bool, false, cond, ◌||◌, List, [], ◌∷◌, ◌++◌}

module _ {A : Type 0} where
  -- whether one of the list passes the test
  abbrev pub any : (A → Bool) → List A → Bool
  any f [] = false
  any f (x ∷ l) = f x || any f l

  -- those of the list that pass the test
  abbrev pub keep : (A → Bool) → List A → List A
  keep f [] = []
  keep f (x ∷ l) = cond (f x) (x ∷ keep f l) (keep f l)

  -- what each of the list gives, one after another
  abbrev pub chain : {B : Type 0} → (A → List B) → List A → List B
  chain f [] = []
  chain f (x ∷ l) = f x ++ chain f l

  -- each of the list has the property
  abbrev pub All : (A → Type 0) → List A → Type 0
  All P [] = Unit {0}
  All P (x ∷ l) = P x × All P l

-- all numbers of a list, added up
abbrev pub sum : List ℕ → ℕ
sum [] = 0
sum (n ∷ l) = n + sum l

-- the first k of them, added up
unfoldable pub sum_before : List ℕ → ℕ → ℕ
sum_before [] k = 0
sum_before (n ∷ l) zero = 0
sum_before (n ∷ l) (suc k) = n + sum_before l k

-- whether one of the numbers below n passes the test
abbrev pub some_below : (ℕ → Bool) → ℕ → Bool
some_below f zero = false
some_below f (suc n) = f n || some_below f n

-- how many of the numbers below n pass the test
abbrev pub how_many : (ℕ → Bool) → ℕ → ℕ
how_many f zero = 0
how_many f (suc n) = cond (f n) (suc (how_many f n)) (how_many f n)

-- a place in memory is a block and a byte in it: the place n bytes further on in the same block
abbrev pub further : ℕ × ℕ → ℕ → ℕ × ℕ
further place n = (place.0, place.1 + n)
