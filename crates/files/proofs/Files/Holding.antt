-- What holds of the entries of a list and of the places where they stand: bytes in a file, records in its bodies.
use mathlib.Core.Path.{◌≡◌, refl, ap, ◌∙◌}
use mathlib.Core.List.{List, [], ◌∷◌, ◌++◌, map}
use Prim.Native.Nat.{ℕ, zero, suc, ◌+◌, ◌*◌, ◌<◌}
use native.Mathlib.Omega.{arith}
use native.Mathlib.Nat.{add-zero, add-suc, suc-add, add_comm, add_assoc, mul-zero, mul-suc}
use lib.ListN.{length, get_or, length-append}
use Rattle.reading.specs.Bytes.{byte_at, table}
use Rattle.model.specs.Lists.{chain}

-- P holds of the places r, r + 1, .. and of the entries of the list
pub data Along {A : Type 0} (P : ℕ → A → Type 0) : ℕ → List A → Type 0 where
  none : {r : ℕ} → Along P r []
  more : {r : ℕ} {x : A} {l : List A} → P r x → Along P (suc r) l → Along P r (x ∷ l)

-- from place r on, g has the entries of the list
abbrev pub Holds : {A : Type 0} → (ℕ → A) → ℕ → List A → Type 0
Holds g r l = Along (λ i x. g i ≡ x) r l

module _ {A : Type 0} {P : ℕ → A → Type 0} where
  -- the first entry and the others
  pub head_of : {r : ℕ} {x : A} {l : List A} → Along P r (x ∷ l) → P r x
  head_of (more p h) = p

  pub tail_of : {r : ℕ} {x : A} {l : List A} → Along P r (x ∷ l) → Along P (suc r) l
  tail_of (more p h) = h

  -- two lists joined: the entries of the first, and behind them those of the second
  pub front_part : {r : ℕ} (l m : List A) → Along P r (l ++ m) → Along P r l
  front_part [] m h = none
  front_part (x ∷ l) m (more p h) = more p (front_part l m h)

  pub back_part : {r : ℕ} (l : List A) {m : List A} → Along P r (l ++ m) → Along P (r + length l) m
  back_part [] h = rw add-zero h
  back_part {r} (x ∷ l) (more p h) = rw (add-suc, ← suc-add) (back_part l h)

  pub back_at : {r : ℕ} (l : List A) (n : ℕ) {m : List A} → length l ≡ n → Along P r (l ++ m) → Along P (r + n) m
  back_at l n e h = rw e at (back_part l h)

  -- one entry by its number, and all by their numbers
  pub at_place : {r : ℕ} {l : List A} → Along P r l → (d : A) (i : ℕ) → i < length l → P (r + i) (get_or l i d)
  at_place none d i h = absurd (omega arith)
  at_place (more p h) d zero k = rw add-zero p
  at_place {r} (more p h) d (suc i) k = rw (add-suc, ← suc-add) (at_place h d i (omega arith))

  pub along_of : (l : List A) (r : ℕ) (d : A) → ((i : ℕ) → i < length l → P (r + i) (get_or l i d)) → Along P r l
  along_of [] r d h = none
  along_of (x ∷ l) r d h = more (rw add-zero at (h 0 (omega arith))) (along_of l (suc r) d (λ i k. rw (add-suc, ← suc-add) at (h (suc i) (omega arith))))

  -- the same places counted from 1 and from 0
  pub down : {r : ℕ} {l : List A} → Along P (suc r) l → Along (λ i x. P (suc i) x) r l
  down none = none
  down (more p h) = more p (down h)

  up : {r : ℕ} {l : List A} → Along (λ i x. P (suc i) x) r l → Along P (suc r) l
  up none = none
  up (more p h) = more p (up h)

  -- the same places counted from r on
  pub from_place : (r s : ℕ) (l : List A) → Along P (r + s) l → Along (λ i x. P (r + i) x) s l
  from_place r s [] none = none
  from_place r s (x ∷ l) (more p h) = more p (from_place r (suc s) l (rw add-suc h))

pub each_so : {A : Type 0} {P Q : ℕ → A → Type 0} {r : ℕ} {l : List A} → ((i : ℕ) (x : A) → P i x → Q i x) → Along P r l → Along Q r l
each_so g none = none
each_so g (more {r} {x} p h) = more (g r x p) (each_so g h)

pub both_along : {A : Type 0} {P Q : ℕ → A → Type 0} {r : ℕ} {l : List A} → Along P r l → Along Q r l → Along (λ i x. P i x × Q i x) r l
both_along none none = none
both_along (more p g) (more q h) = more (p, q) (both_along g h)

pub along_map : {A B : Type 0} {Q : ℕ → B → Type 0} (g : A → B) {r : ℕ} {l : List A} → Along (λ i x. Q i (g x)) r l → Along Q r (map g l)
along_map g none = none
along_map g (more p h) = more p (along_map g h)

pub along_unmap : {A B : Type 0} {Q : ℕ → B → Type 0} (g : A → B) {r : ℕ} (l : List A) → Along Q r (map g l) → Along (λ i x. Q i (g x)) r l
along_unmap g [] none = none
along_unmap g (x ∷ l) (more p h) = more p (along_unmap g l h)

-- a list has its own entries
pub itself : (f : List ℕ) → Holds (byte_at f) 0 f
itself [] = none
itself (x ∷ f) = more refl (up (itself f))

-- the entries' pieces of equal width, one after the other
module _ {A : Type 0} (bytes : A → List ℕ) (width : ℕ) (wide : (x : A) → length (bytes x) ≡ width) where
  pub joined_length : (l : List A) → length (chain bytes l) ≡ width * length l
  joined_length [] = rw mul-zero
  joined_length (x ∷ l) = length-append (bytes x) (chain bytes l) ∙ rw (wide x, joined_length l, mul-suc) (add_comm _ _)

  pub pieces : (f : ℕ → ℕ) (start : ℕ) (l : List A) (r : ℕ) → Holds f (start + width * r) (chain bytes l) → Along (λ i x. Holds f (start + width * i) (bytes x)) r l
  pieces f start [] r h = none
  pieces f start (x ∷ l) r h =
      more (front_part (bytes x) (chain bytes l) h)
      (pieces f start l (suc r) (rw (mul-suc, ← add_assoc) (rw (wide x) at (back_part (bytes x) h))))

-- a table's entries, from the first on
table_first : {A : Type 0} (g : ℕ → A) (n : ℕ) → table g (suc n) ≡ g 0 ∷ table (λ i. g (suc i)) n
unfolding table
table_first g zero = refl
table_first g (suc n) = ap {B = List _} (λ l. l ++ (g (suc n) ∷ [])) (table_first g n)

pub table_is : {A : Type 0} (g : ℕ → A) (l : List A) → Holds g 0 l → table g (length l) ≡ l
unfolding table
table_is g [] h = refl
table_is g (x ∷ l) (more e h) = table_first g (length l) ∙ rw (e, table_is (λ i. g (suc i)) l (down h))
