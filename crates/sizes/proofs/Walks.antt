-- The records of a body one after the other, whatever arms they stand in: each passes its tests, and their block has them in this order.
use mathlib.Core.Path.{◌≡◌, refl, sym, ap, ◌∙◌}
use mathlib.Core.Logic.{◌⊎◌, inl, inr}
use mathlib.Core.Bool.{Bool, true, false, true≢false}
use mathlib.Core.List.{List, [], ◌∷◌, ◌++◌, append-nil, append_assoc}
use Prim.Native.Nat.{ℕ, zero, suc, ◌+◌, ◌-◌, ◌≤◌, ◌<◌}
use native.Mathlib.Decide.{dec_lt}
use native.Mathlib.Omega.{arith}
use lib.ListN.{length, length-append}
use borrow.Author.Tests.{ne_eqb}
use Rattle.model.specs.Records.{Action}
use Rattle.model.specs.Blocks.{Block, size}
use Rattle.reading.specs.declared.Fields.{Fields}
use Rattle.reading.specs.Bytes.{fields_at, nests, first_arm, second_arm}
use Rattle.rules.specs.Rules.{fields_fit, allowed}
use Rattle.files.specs.Files.{fields}
use Rattle.files.specs.Inner.Short.{block_fields}
use Rattle.format.specs.Inner.Walks.{Good, Walkable}
use Rattle.format.proofs.Walking.{good_parts, steps}
use Rattle.format.proofs.Acts.{turns_fit}
use Rattle.format.proofs.Trees.{is_branch, is_loop, is_fixed, is_leaf, shape, no_arms, walk_of}
use Rattle.files.proofs.Files.Records.{fields_count}
use Rattle.sizes.specs.Inner.Sizes.{second_field}
use Rattle.sizes.proofs.Fields.{loop_turns}

either : (b : Bool) → (b ≡ true) ⊎ (b ≡ false)
either true = inl refl
either false = inr refl

-- where the second arm of record r begins, and what comes after its arms
abbrev pub second : List ℕ → ℕ → ℕ
second f r = r + 1 + first_arm (fields_at f r)

abbrev pub next : List ℕ → ℕ → ℕ
next f r = second f r + second_arm (fields_at f r)

-- what a record of body b, in what ends before record `end`, has passed
pub record Tested (f : List ℕ) (b end k : ℕ) : Type 0 where
  pub fits : fields_fit f (fields_at f k) ≡ true
  pub allows : allowed f b k (fields_at f k) ≡ true
  pub inside : k + 1 + first_arm (fields_at f k) + second_arm (fields_at f k) ≤ end

module _ (f : List ℕ) (b : ℕ) where
  wider : (k end more : ℕ) → end ≤ more → Tested f b end k → Tested f b more k
  wider k end more h t = record { fits = t.fits; allows = t.allows; inside = omega (arith, t.inside) }

  tested : (fuel depth around r end k : ℕ) → end ≤ r + fuel → Good f b depth around r end → r ≤ k → k < end → Tested f b end k
  tested zero depth around r end k n g h l = absurd (omega arith)
  tested (suc fuel) depth around r end k n g h l =
      let p = good_parts f b depth around r end (omega arith) g in
      elim (dec_lt r k) [
        | yes m ↦ elim (dec_lt k (second f r)) [
          | yes o ↦ wider k (second f r) end (omega (arith, p.tests.inside)) (tested fuel (depth + 1) _ (r + 1) (second f r) k (omega (arith, p.tests.inside)) p.one (omega arith) o)
          | no o ↦ elim (dec_lt k (next f r)) [
            | yes q ↦ wider k (next f r) end p.tests.inside (tested fuel (depth + 1) _ (second f r) (next f r) k (omega (arith, p.tests.inside)) p.two (omega arith) q)
            | no q ↦ tested fuel depth around (next f r) end k (omega arith) p.rest (omega arith) l
          ]
        ]
        | no m ↦ let e : k ≡ r = omega arith in rw e (record { fits = p.tests.fits; allows = p.tests.allows; inside = p.tests.inside })
      ]

  -- record k of a good block
  pub good_tested : (depth around r end : ℕ) → Good f b depth around r end → (k : ℕ) → r ≤ k → k < end → Tested f b end k
  good_tested depth around r end g k h l = tested end depth around r end k (omega arith) g h l

-- the records of a branch; of a loop and of a fixed loop, which have no second arm
module _ (x : Fields) (n : ℕ) (b one two rest : Block Action) where
  abbrev Nested : Type 0
  Nested = block_fields b ≡ fields x.kind 0 0 (size one) (second_field x (size two)) ∷ (block_fields one ++ (block_fields two ++ block_fields rest))

  branch_fields : b ≡ Block.branch n one two rest → x.kind ≡ 6 → Nested
  unfolding second_field
  branch_fields e k = rw (e, k)

  loop_fields : b ≡ Block.loop n one rest → two ≡ Block.done → x.kind ≡ 7 → x.q ≡ 0 → Nested
  unfolding second_field
  loop_fields e d k q = rw (e, d, k, q)

  fixed_fields : b ≡ Block.fixed n (x.q - 1) one rest → two ≡ Block.done → x.kind ≡ 9 → 1 ≤ x.q → Nested
  unfolding second_field
  fixed_fields e d k q = let m : suc (x.q - 1) ≡ x.q = omega arith in rw (e, d, k, m)

-- t r has what is made of the records before r, from record `low` on; `block r end` is made of the records r up to `end`
module _ (f : List ℕ) (b low : ℕ) (t : ℕ → List Fields) (block : ℕ → ℕ → Block Action) where
  pub record Made : Type 0 where
    pub none : (r end : ℕ) → end ≤ r → block r end ≡ Block.done
    -- a branch or a loop, its arms, and the rest
    pub branches : (r end : ℕ) → r < end → Walkable f r end → (fields_at f r).kind ≡ 6 → block r end ≡ Block.branch r (block (r + 1) (second f r)) (block (second f r) (next f r)) (block (next f r) end)
    pub loops : (r end : ℕ) → r < end → Walkable f r end → (fields_at f r).kind ≡ 7 → block r end ≡ Block.loop r (block (r + 1) (second f r)) (block (next f r) end)
    pub fixed_loops : (r end : ℕ) → r < end → Walkable f r end → (fields_at f r).kind ≡ 9 → block r end ≡ Block.fixed r ((fields_at f r).q - 1) (block (r + 1) (second f r)) (block (next f r) end)
    pub grows : (r : ℕ) → low ≤ r → Tested f b (next f r) r → nests (fields_at f r) ≡ true →
        t (r + 1) ≡ t r ++ (fields (fields_at f r).kind 0 0 (length (t (second f r)) - length (t (r + 1))) (second_field (fields_at f r) (length (t (next f r)) - length (t (second f r)))) ∷ [])
    -- any other record, and the rest
    pub other : (depth around r end : ℕ) → low ≤ r → r < end → Good f b depth around r end → nests (fields_at f r) ≡ false →
        t r ++ block_fields (block r end) ≡ t (r + 1) ++ block_fields (block (r + 1) end)

  module _ (made : Made) where
    nested : (r end : ℕ) → r < end → Walkable f r end → nests (fields_at f r) ≡ true →
        block_fields (block r end) ≡ fields (fields_at f r).kind 0 0 (size (block (r + 1) (second f r))) (second_field (fields_at f r) (size (block (second f r) (next f r)))) ∷ (block_fields (block (r + 1) (second f r)) ++ (block_fields (block (second f r) (next f r)) ++ block_fields (block (next f r) end)))
    unfolding second_arm
    nested r end h w n =
        let x = fields_at f r in
        let fits = (steps f r end h w x refl).fits in
        elim (shape x) [
          | is_branch k ↦ branch_fields x r _ _ _ _ (made.branches r end h w k) k
          | is_loop k ↦
              let z : second_arm x ≡ 0 = rw (ne_eqb x.kind 6 (λ u. omega arith)) in
              loop_fields x r _ _ _ _ (made.loops r end h w k) (made.none (second f r) (next f r) (omega arith)) k (loop_turns f x fits k)
          | is_fixed k ↦
              let z : second_arm x ≡ 0 = rw (ne_eqb x.kind 6 (λ u. omega arith)) in
              fixed_fields x r _ _ _ _ (made.fixed_loops r end h w k) (made.none (second f r) (next f r) (omega arith)) k (turns_fit f x fits k).0
          | is_leaf k ↦ absurd (true≢false (sym n ∙ k))
        ]

    -- how many records a part has
    part_size : (r end : ℕ) → t r ++ block_fields (block r end) ≡ t end → size (block r end) ≡ length (t end) - length (t r)
    part_size r end e = omega (arith, fields_count (block r end), length-append (t r) (block_fields (block r end)), ap length e)

    chain : (l p x y z l₁ l₂ l₃ l₄ : List Fields) → l₁ ≡ l ++ p → l₁ ++ x ≡ l₂ → l₂ ++ y ≡ l₃ → l₃ ++ z ≡ l₄ → l ++ (p ++ (x ++ (y ++ z))) ≡ l₄
    chain l p x y z l₁ l₂ l₃ l₄ e₁ e₂ e₃ e₄ = rw (← e₄, ← e₃, ← e₂, e₁) (simp append_assoc)

    at_end : (r end : ℕ) → r ≤ end → end ≤ r → t r ++ block_fields (block r end) ≡ t end
    at_end r end h k = let e : r ≡ end = omega arith in rw (made.none r end k, append-nil, e)

    flat : (fuel depth around r end : ℕ) → low ≤ r → r ≤ end → end ≤ r + fuel → Good f b depth around r end → t r ++ block_fields (block r end) ≡ t end
    flat zero depth around r end l h n g = at_end r end h (omega arith)
    flat (suc fuel) depth around r end l h n g = elim (dec_lt r end) [
      | no m ↦ at_end r end h (omega arith)
      | yes m ↦
          let p = good_parts f b depth around r end m g in
          let i = p.tests.inside in
          elim (either (nests (fields_at f r))) [
            | inl v ↦
                let one = flat fuel (depth + 1) _ (r + 1) (second f r) (omega arith) (omega arith) (omega arith) p.one in
                let two = flat fuel (depth + 1) _ (second f r) (next f r) (omega arith) (omega arith) (omega arith) p.two in
                let rest = flat fuel depth around (next f r) end (omega arith) i (omega arith) p.rest in
                let grown = made.grows r l (record { fits = p.tests.fits; allows = p.tests.allows; inside = omega arith }) v in
                rw (nested r end m (walk_of g) v, part_size (r + 1) (second f r) one, part_size (second f r) (next f r) two)
                (chain (t r) _ _ _ _ (t (r + 1)) (t (second f r)) (t (next f r)) (t end) grown one two rest)
            | inr v ↦
                let a = no_arms (fields_at f r) v in
                let e : next f r ≡ r + 1 = omega (arith, a) in
                made.other depth around r end l m g v ∙ flat fuel depth around (r + 1) end (omega arith) (omega arith) (omega arith) (rw e at p.rest)
          ]
    ]

    -- a good block has the records that are made of those from r up to `end`
    pub made_between : (depth around r end : ℕ) → low ≤ r → r ≤ end → Good f b depth around r end → t r ++ block_fields (block r end) ≡ t end
    made_between depth around r end l h g = flat end depth around r end l h (omega arith) g
