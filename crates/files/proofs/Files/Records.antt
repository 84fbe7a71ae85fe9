-- The rows of records pass where the records are those of a block within the bounds.
use mathlib.Core.Path.{◌≡◌, refl}
use mathlib.Core.Logic.{inl, inr}
use mathlib.Core.Bool.{Bool, true, false, ◌&&◌, ◌||◌, false≢true}
use mathlib.Core.List.{List, ◌++◌}
use Prim.Native.Nat.{ℕ, zero, suc, ◌+◌, ◌*◌, max, ◌≤◌, ◌<◌}
use native.Mathlib.Omega.{arith}
use native.Mathlib.Numerals.{add-one}
use native.Mathlib.Nat.{add-zero, one-mul, mul-one, mul_assoc, mul-le-mul_left, mul-le-mul_right, le-max_left, le-max_right}
use lib.ListN.{length, length-append}
use lib.Dec.{ltb, leb, eqb}
use borrow.Author.Tests.{lt-ltb, le-ltb, ltb-true}
use Rattle.model.specs.Sides.{Side, host, card, side_number, span_of, Layout}
use Rattle.model.specs.Records.{Verb, read, write, copy, need, mark, kind, Action}
use Rattle.model.specs.Blocks.{Block, size, largest}
use Rattle.model.proofs.Booleans.{or_out, or_left, or_right, and_out}
use Rattle.model.proofs.Products.{largest_some}
use Rattle.model.proofs.Stamps.{as_verb}
use Rattle.reading.specs.declared.Fields.{Fields}
use Rattle.reading.specs.Bytes.{array_count, length_at, fields_at, between, nests, first_arm, second_arm, turns_of}
use Rattle.reading.proofs.Ranges.{in_range}
use Rattle.rules.specs.Rules.{fields_fit, acts_or_nests, allowed, deepest, record_rows}
use Rattle.records.specs.Records.{block_rows}
use Rattle.format.proofs.Trees.{not_nesting, no_arms, one_turn}
use Rattle.files.specs.Files.{fields, action_fields, fields_of}
use Rattle.files.specs.Inner.Short.{block_fields}
use Rattle.files.specs.Bounds.{cells_fit, action_fits, nested_within}
use Rattle.files.proofs.Files.Holding.{more, Holds, front_part, back_at}
use Rattle.files.proofs.Files.Places.{Arrayed, array_length}
use Rattle.files.proofs.Files.Accepting.{Passes, passes_none, passes_row, passes_append, within_bounds}

module _ (f : List ℕ) (b : ℕ) where
  -- the rows of the records r up to `end` pass, whatever the fuel
  abbrev pub Walks : ℕ → ℕ → ℕ → ℕ → Type 0
  Walks depth around r end = (fuel : ℕ) → Passes (block_rows fuel f b depth around r end)

  pub at_end : (depth around r end : ℕ) → end ≤ r → Walks depth around r end
  unfolding block_rows
  at_end depth around r end h zero = passes_none
  at_end depth around r end h (suc fuel) = rw (le-ltb r end h) passes_none

  -- one record, its arms, the rest
  module _ (depth around r end : ℕ) (x : Fields) (x-is : fields_at f r ≡ x) (fits : fields_fit f x ≡ true) (may : allowed f b r x ≡ true) where
    record_passes : r + 1 + first_arm x + second_arm x ≤ end → (nests x && ltb (deepest f) depth) ≡ false → around * turns_of x ≤ 4096 → Passes (record_rows f b depth around r end)
    unfolding record_rows
    record_passes inside shallow few =
        simp (x-is, fits, may, le-ltb end (r + 1 + first_arm x + second_arm x) inside, shallow, le-ltb 4096 (around * turns_of x) few)
        (passes_row _ _ _ _ refl (passes_row _ _ _ _ refl (passes_row _ _ _ _ refl (passes_row _ _ _ _ refl passes_none))))

    at_record : (n m within : ℕ) → first_arm x ≡ n → second_arm x ≡ m → around * turns_of x ≡ within → (nests x && ltb (deepest f) depth) ≡ false → within ≤ 4096 → suc r + n + m ≤ end
        → Walks (depth + 1) within (suc r) (suc r + n) → Walks (depth + 1) within (suc r + n) (suc r + n + m) → Walks depth around (suc r + n + m) end → Walks depth around r end
    unfolding block_rows
    at_record n m within en em ew shallow few inside one two rest zero = passes_none
    at_record n m within en em ew shallow few inside one two rest (suc fuel) =
        let h : r < end = omega arith in
        let inside' : r + 1 + first_arm x + second_arm x ≤ end = rw (add-one, en, em) inside in
        rw (lt-ltb r end h)
        (passes_append (record_rows f b depth around r end) _ (record_passes inside' shallow (rw ew few))
        (rw (x-is, add-one r, en, em, ew) (passes_append (block_rows fuel f b (depth + 1) within (suc r) (suc r + n)) _ (one fuel)
        (passes_append (block_rows fuel f b (depth + 1) within (suc r + n) (suc r + n + m)) _ (two fuel) (rest fuel)))))

    -- one that has no arms
    pub at_plain : nests x ≡ false → around ≤ 4096 → suc r ≤ end → Walks depth around (suc r) end → Walks depth around r end
    at_plain k few inside rest =
        let s : suc r + 0 + 0 ≡ suc r = omega arith in
        let arms = no_arms x k in
        let once : around * turns_of x ≡ around = rw (one_turn x (not_nesting x k).2) (mul-one around) in
        at_record 0 0 around arms.0 arms.1 once (rw k) few (omega arith) (at_end _ _ _ _ (omega arith)) (at_end _ _ _ _ (omega arith)) (rw s rest)

  -- a branch of n and m records, a loop of n, a fixed loop of n and m + 1 turns: "inside at most .. others"
  module _ (depth around r end n : ℕ) (shallow : depth ≤ deepest f) (few : around ≤ 4096) where
    pub at_branch : (m : ℕ) → fields_at f r ≡ fields 6 0 0 n m → allowed f b r (fields 6 0 0 n m) ≡ true → suc r + n + m ≤ end
        → Walks (depth + 1) around (suc r) (suc r + n) → Walks (depth + 1) around (suc r + n) (suc r + n + m) → Walks depth around (suc r + n + m) end → Walks depth around r end
    unfolding fields_fit first_arm second_arm turns_of
    at_branch m x-is may = at_record depth around r end (fields 6 0 0 n m) x-is refl may n m around refl refl (mul-one around) (le-ltb (deepest f) depth shallow) few

    pub at_loop : fields_at f r ≡ fields 7 0 0 n 0 → allowed f b r (fields 7 0 0 n 0) ≡ true → suc r + n ≤ end
        → Walks (depth + 1) around (suc r) (suc r + n) → Walks depth around (suc r + n) end → Walks depth around r end
    unfolding fields_fit first_arm second_arm turns_of
    at_loop x-is may inside one rest =
        let s : suc r + n + 0 ≡ suc r + n = add-zero (suc r + n) in
        at_record depth around r end (fields 7 0 0 n 0) x-is refl may n 0 around refl refl (mul-one around) (le-ltb (deepest f) depth shallow) few (omega arith) one (at_end _ _ _ _ (omega arith)) (rw s rest)

    pub at_fixed : (m : ℕ) → fields_at f r ≡ fields 9 0 0 n (suc m) → allowed f b r (fields 9 0 0 n (suc m)) ≡ true → suc m ≤ 4096 → around * suc m ≤ 4096 → suc r + n ≤ end
        → Walks (depth + 1) (around * suc m) (suc r) (suc r + n) → Walks depth around (suc r + n) end → Walks depth around r end
    unfolding fields_fit first_arm second_arm turns_of
    at_fixed m x-is may turns product inside one rest =
        let s : suc r + n + 0 ≡ suc r + n = add-zero (suc r + n) in
        at_record depth around r end (fields 9 0 0 n (suc m)) x-is (in_range 1 4096 (suc m) (omega arith) turns) may n 0 (around * suc m) refl refl refl (le-ltb (deepest f) depth shallow) product (omega arith)
        one (at_end _ _ _ _ (omega arith)) (rw s rest)

-- the products inside a part of a block, from those inside the whole
module _ (around : ℕ) where
  product_low : (m : ℕ) → 1 ≤ m → around * m ≤ 4096 → around ≤ 4096
  product_low m h k = omega (arith, mul-le-mul_left around h, mul-one around)

  product_left : (m n : ℕ) → around * max m n ≤ 4096 → around * m ≤ 4096
  product_left m n h = omega (arith, mul-le-mul_left around (le-max_left m n))

  product_right : (m n : ℕ) → around * max m n ≤ 4096 → around * n ≤ 4096
  product_right m n h = omega (arith, mul-le-mul_left around (le-max_right m n))

-- "Side 0 is the host, side 1 the card."
pub side_fits : (s : Side) → ltb (side_number s) 2 ≡ true
side_fits host = refl
side_fits card = refl

-- the records of actions
action_kind : (v : Verb) → (between 1 7 (kind v) ≡ true) × ((between 6 7 (kind v) || eqb (kind v) 9) ≡ false)
action_kind read = (refl, refl)
action_kind write = (refl, refl)
action_kind copy = (refl, refl)
action_kind need = (refl, refl)
action_kind mark = (refl, refl)

pub action_leaf : (x : Action) → nests (action_fields x) ≡ false
action_leaf x = (action_kind x.verb).1

-- a block's records are as many as its size
pub count_of : {A : Type 0} (leaf : A → Fields) (x : Block A) → length (fields_of leaf x) ≡ size x
count_of leaf Block.done = refl
count_of leaf (Block.act r x b) = rw (count_of leaf b)
count_of leaf (Block.branch r x y b) =
    omega (arith, count_of leaf x, count_of leaf y, count_of leaf b, length-append (fields_of leaf x) (fields_of leaf y ++ fields_of leaf b), length-append (fields_of leaf y) (fields_of leaf b))
count_of leaf (Block.loop r x b) = omega (arith, count_of leaf x, count_of leaf b, length-append (fields_of leaf x) (fields_of leaf b))
count_of leaf (Block.fixed r n x b) = omega (arith, count_of leaf x, count_of leaf b, length-append (fields_of leaf x) (fields_of leaf b))

pub fields_count : (x : Block Action) → length (block_fields x) ≡ size x
fields_count x = count_of action_fields x

-- a record that is neither branch nor loop, and may stand at r
pub record PlainAt (f : List ℕ) (b r : ℕ) (x : Fields) : Type 0 where
  pub fits : fields_fit f x ≡ true
  pub may : allowed f b r x ≡ true
  pub leaf : nests x ≡ false

-- a block whose leaves are such records from `low` on, where branches and loops may stand
module _ {A : Type 0} (leaf : A → Fields) (fits : A → Bool) (f : List ℕ) (b low : ℕ) (holds : (r : ℕ) (x : Fields) → low ≤ r → nests x ≡ true → allowed f b r x ≡ true)
    (plain : (x : A) (r : ℕ) → low ≤ r → fits x ≡ true → PlainAt f b r (leaf x)) where
  pub walks_of : (x : Block A) (levels depth around r : ℕ) → nested_within fits levels x ≡ true → depth + levels ≤ deepest f + 1 → 1 ≤ around → around * largest x ≤ 4096 → low ≤ r → Holds (fields_at f) r (fields_of leaf x) → Walks f b depth around r (r + size x)
  walks_of Block.done levels depth around r e d a q l h = at_end f b depth around r (r + 0) (omega arith)
  walks_of (Block.act _ x t) levels depth around r e d a q l (more x-is h) =
      let fit = and_out (fits x) (nested_within fits levels t) e in
      let p = plain x r l fit.0 in
      let next : suc r + size t ≡ r + suc (size t) = omega arith in
      at_plain f b depth around r (r + suc (size t)) (leaf x) x-is p.fits p.may p.leaf (product_low around (largest t) (largest_some t) q) (omega arith)
      (rw next at (walks_of t levels depth around (suc r) fit.1 d a q (omega arith) h))
  walks_of (Block.branch _ x y t) zero depth around r e d a q l h = absurd (false≢true e)
  walks_of (Block.branch _ x y t) (suc levels) depth around r e d a q l (more x-is h) =
      let fit = and_out (nested_within fits levels x) (nested_within fits levels y && nested_within fits (suc levels) t) e in
      let fit' = and_out (nested_within fits levels y) (nested_within fits (suc levels) t) fit.1 in
      let h' = back_at (fields_of leaf x) (size x) (count_of leaf x) h in
      let next : suc r + size x + size y + size t ≡ r + suc (size x + size y + size t) = omega arith in
      let first = product_left around (largest x) (max (largest y) (largest t)) q in
      let others = product_right around (largest x) (max (largest y) (largest t)) q in
      at_branch f b depth around r (r + suc (size x + size y + size t)) (size x) (omega arith) (product_low around (largest x) (largest_some x) first) (size y) x-is
      (holds r (fields 6 0 0 (size x) (size y)) l refl) (omega arith)
      (walks_of x levels (depth + 1) around (suc r) fit.0 (omega arith) a first (omega arith) (front_part (fields_of leaf x) _ h))
      (walks_of y levels (depth + 1) around (suc r + size x) fit'.0 (omega arith) a (product_left around (largest y) (largest t) others) (omega arith) (front_part (fields_of leaf y) _ h'))
      (rw next at (walks_of t (suc levels) depth around (suc r + size x + size y) fit'.1 d a (product_right around (largest y) (largest t) others) (omega arith) (back_at (fields_of leaf y) (size y) (count_of leaf y) h')))
  walks_of (Block.loop _ x t) zero depth around r e d a q l h = absurd (false≢true e)
  walks_of (Block.loop _ x t) (suc levels) depth around r e d a q l (more x-is h) =
      let fit = and_out (nested_within fits levels x) (nested_within fits (suc levels) t) e in
      let next : suc r + size x + size t ≡ r + suc (size x + size t) = omega arith in
      let first = product_left around (largest x) (largest t) q in
      at_loop f b depth around r (r + suc (size x + size t)) (size x) (omega arith) (product_low around (largest x) (largest_some x) first) x-is (holds r (fields 7 0 0 (size x) 0) l refl) (omega arith)
      (walks_of x levels (depth + 1) around (suc r) fit.0 (omega arith) a first (omega arith) (front_part (fields_of leaf x) _ h))
      (rw next at (walks_of t (suc levels) depth around (suc r + size x) fit.1 d a (product_right around (largest x) (largest t) q) (omega arith) (back_at (fields_of leaf x) (size x) (count_of leaf x) h)))
  walks_of (Block.fixed _ n x t) zero depth around r e d a q l h = absurd (false≢true e)
  walks_of (Block.fixed _ n x t) (suc levels) depth around r e d a q l (more x-is h) =
      let fit = and_out (nested_within fits levels x) (nested_within fits (suc levels) t) e in
      let next : suc r + size x + size t ≡ r + suc (size x + size t) = omega arith in
      let others = product_right around (suc n * largest x) (largest t) q in
      let first : around * suc n * largest x ≤ 4096 = rw (mul_assoc around (suc n) (largest x)) (product_left around (suc n * largest x) (largest t) q) in
      let product = product_low (around * suc n) (largest x) (largest_some x) first in
      let turns : suc n ≤ around * suc n = omega (arith, mul-le-mul_right (suc n) a, one-mul (suc n)) in
      at_fixed f b depth around r (r + suc (size x + size t)) (size x) (omega arith) (product_low around (largest t) (largest_some t) others) n x-is
      (holds r (fields 9 0 0 (size x) (suc n)) l refl) (omega arith) product (omega arith)
      (walks_of x levels (depth + 1) (around * suc n) (suc r) fit.0 (omega arith) (omega arith) first (omega arith) (front_part (fields_of leaf x) _ h))
      (rw next at (walks_of t (suc levels) depth around (suc r + size x) fit.1 d a others (omega arith) (back_at (fields_of leaf x) (size x) (count_of leaf x) h)))

-- where the arrays are these
module _ (f : List ℕ) (layout : Layout) (arrayed : Arrayed f layout) where
  pub action_fit : (x : Action) → action_fits layout x ≡ true → fields_fit f (action_fields x) ≡ true
  unfolding fields_fit
  action_fit x e = go x.verb h.1
    where
      h : (ltb x.name (length layout.lengths) ≡ true) × (cells_fit layout x ≡ true)
      h = and_out (ltb x.name (length layout.lengths)) (cells_fit layout x) e

      ranged : (ltb x.step 256 && (ltb x.p x.q && leb x.q (span_of layout x.name).length)) ≡ true →
          (ltb (side_number x.side) 2 && ltb x.name (array_count f) && ltb x.p x.q && leb x.q (length_at f x.name)) ≡ true
      ranged u =
          let k = and_out (ltb x.p x.q) (leb x.q (span_of layout x.name).length) (and_out (ltb x.step 256) _ u).1 in
          rw (side_fits x.side, arrayed.counted, h.0, k.0, array_length f layout arrayed x.name (ltb-true _ _ h.0), k.1)

      unused : (eqb x.step 0 && (eqb x.p 0 && eqb x.q 0)) ≡ true →
          (ltb (side_number x.side) 2 && ltb x.name (array_count f) && eqb x.step 0 && eqb x.p 0 && eqb x.q 0) ≡ true
      unused u =
          let k₁ = and_out (eqb x.step 0) _ u in
          let k₂ = and_out (eqb x.p 0) (eqb x.q 0) k₁.1 in
          rw (side_fits x.side, arrayed.counted, h.0, k₁.0, k₂.0, k₂.1)

      go : (v : Verb) → cells_fit layout (as_verb v x) ≡ true → fields_fit f (action_fields (as_verb v x)) ≡ true
      go read u = ranged u
      go write u = ranged u
      go copy u = ranged u
      go need u = unused u
      go mark u = unused u

-- where the records from `low` on may be of the kinds 1 to 7 and 9, and an action that passes the test has fields that fit
module _ (f : List ℕ) (b low : ℕ) (may : (r : ℕ) (x : Fields) → low ≤ r → acts_or_nests x ≡ true → allowed f b r x ≡ true)
    (fits : Action → Bool) (fit : (x : Action) → fits x ≡ true → fields_fit f (action_fields x) ≡ true) where
  pub block_walks : (x : Block Action) (levels depth around r : ℕ) → nested_within fits levels x ≡ true → depth + levels ≤ deepest f + 1 → 1 ≤ around → around * largest x ≤ 4096 → low ≤ r → Holds (fields_at f) r (block_fields x) → Walks f b depth around r (r + size x)
  block_walks = walks_of action_fields fits f b low (λ r x l e. may r x l (held_kind x.kind e)) plain
    where
      held_kind : (k : ℕ) → (between 6 7 k || eqb k 9) ≡ true → (between 1 7 k || eqb k 9) ≡ true
      held_kind k e = elim (or_out (between 6 7 k) (eqb k 9) e) [
        | inl u ↦ let h = within_bounds 6 7 k u in or_left (between 1 7 k) (eqb k 9) (in_range 1 7 k (omega arith) h.1)
        | inr u ↦ or_right (between 1 7 k) (eqb k 9) u
      ]

      plain : (x : Action) (r : ℕ) → low ≤ r → fits x ≡ true → PlainAt f b r (action_fields x)
      plain x r l e =
          let kinds = action_kind x.verb in
          record { fits = fit x e; may = may r (action_fields x) l (or_left (between 1 7 (kind x.verb)) _ kinds.0); leaf = kinds.1 }
