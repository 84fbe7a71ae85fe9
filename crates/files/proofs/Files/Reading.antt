-- Reading back: the records of a block read as that block, numbered from its first record on.
use mathlib.Core.Path.{◌≡◌, refl, ◌∙◌}
use mathlib.Core.Bool.{false}
use Prim.Native.Nat.{ℕ, zero, suc, ◌+◌, ◌-◌, ◌≤◌, ◌<◌}
use native.Mathlib.Omega.{arith}
use native.Mathlib.Numerals.{add-one}
use native.Mathlib.Nat.{add-zero}
use borrow.Author.Tests.{lt-ltb, le-ltb, ne_eqb}
use Rattle.model.specs.Sides.{Side, host, card, side_number}
use Rattle.model.specs.Records.{Verb, read, write, copy, need, mark, kind, Action}
use Rattle.model.specs.Blocks.{Block, size, numbered}
use Rattle.reading.specs.declared.Fields.{Fields}
use Rattle.reading.specs.Bytes.{nests, first_arm, second_arm}
use Rattle.format.specs.Plans.{side_of, verb_of, action_of, block_of}
use Rattle.format.specs.Inner.Walks.{call_of}
use Rattle.format.proofs.Trees.{not_nesting, no_arms}
use Rattle.files.specs.Files.{fields, action_fields, fields_of}
use Rattle.files.specs.Bounds.{call_fields}
use Rattle.files.specs.Inner.Short.{block_fields}
use Rattle.files.proofs.Files.Holding.{more, Holds, front_part, back_at}
use Rattle.files.proofs.Files.Records.{action_leaf, count_of}

pub side_back : (s : Side) → side_of (side_number s) ≡ s
side_back host = refl
side_back card = refl

verb_back : (v : Verb) → verb_of (kind v) ≡ v
verb_back read = refl
verb_back write = refl
verb_back copy = refl
verb_back need = refl
verb_back mark = refl

action_back : (x : Action) → action_of (action_fields x) ≡ x
unfolding action_of
action_back x = rw (verb_back x.verb, side_back x.side)

-- leaves that read back, and are neither branch nor loop
module _ {A : Type 0} (fields_in : A → Fields) (leaf : Fields → A) (back : (x : A) → leaf (fields_in x) ≡ x)
    (plain : (x : A) → nests (fields_in x) ≡ false) (g : ℕ → Fields) where
  reads_none : (fuel r end : ℕ) → end ≤ r → block_of leaf fuel g r end ≡ Block.done
  unfolding block_of
  reads_none zero r end h = refl
  reads_none (suc fuel) r end h = rw (le-ltb r end h)

  module _ (fuel r end : ℕ) (h : r < end) where
    reads_act : (x : A) → g r ≡ fields_in x → block_of leaf (suc fuel) g r end ≡ Block.act r x (block_of leaf fuel g (suc r) end)
    unfolding block_of
    reads_act x e =
        let next : suc r + 0 + 0 ≡ suc r = omega arith in
        let kind = not_nesting (fields_in x) (plain x) in
        let arms = no_arms (fields_in x) (plain x) in
        rw (lt-ltb r end h, e, ne_eqb (fields_in x).kind 6 kind.0, ne_eqb (fields_in x).kind 7 kind.1, ne_eqb (fields_in x).kind 9 kind.2, arms.0, arms.1, add-one r, next, back x)

    reads_branch : (n m : ℕ) → g r ≡ fields 6 0 0 n m
        → block_of leaf (suc fuel) g r end ≡ Block.branch r (block_of leaf fuel g (suc r) (suc r + n)) (block_of leaf fuel g (suc r + n) (suc r + n + m)) (block_of leaf fuel g (suc r + n + m) end)
    unfolding block_of first_arm second_arm
    reads_branch n m e = rw (lt-ltb r end h, e, add-one r)

    reads_loop : (n : ℕ) → g r ≡ fields 7 0 0 n 0 → block_of leaf (suc fuel) g r end ≡ Block.loop r (block_of leaf fuel g (suc r) (suc r + n)) (block_of leaf fuel g (suc r + n) end)
    unfolding block_of first_arm second_arm
    reads_loop n e = rw (lt-ltb r end h, e, add-one r, add-zero)

    reads_fixed : (n m : ℕ) → g r ≡ fields 9 0 0 n (suc m) → block_of leaf (suc fuel) g r end ≡ Block.fixed r m (block_of leaf fuel g (suc r) (suc r + n)) (block_of leaf fuel g (suc r + n) end)
    unfolding block_of first_arm second_arm
    reads_fixed n m e = let before : suc m - 1 ≡ m = omega arith in rw (lt-ltb r end h, e, add-one r, add-zero, before)

  pub reads_of : (x : Block A) (fuel r : ℕ) → size x ≤ fuel → Holds g r (fields_of fields_in x) → block_of leaf fuel g r (r + size x) ≡ numbered r x
  reads_of Block.done fuel r k h = reads_none fuel r (r + 0) (omega arith)
  reads_of (Block.act _ x t) zero r k h = absurd (omega arith)
  reads_of (Block.act _ x t) (suc fuel) r k (more e h) =
      let end : suc r + size t ≡ r + suc (size t) = omega arith in
      reads_act fuel r (r + suc (size t)) (omega arith) x e ∙ rw (← end, reads_of t fuel (suc r) (omega arith) h)
  reads_of (Block.branch _ x y t) zero r k h = absurd (omega arith)
  reads_of (Block.branch _ x y t) (suc fuel) r k (more e h) =
      let end : suc r + size x + size y + size t ≡ r + suc (size x + size y + size t) = omega arith in
      let h' = back_at (fields_of fields_in x) (size x) (count_of fields_in x) h in
      reads_branch fuel r (r + suc (size x + size y + size t)) (omega arith) (size x) (size y) e
      ∙ rw (
        ← end,
        reads_of x fuel (suc r) (omega arith) (front_part (fields_of fields_in x) _ h),
        reads_of y fuel (suc r + size x) (omega arith) (front_part (fields_of fields_in y) _ h'),
        reads_of t fuel (suc r + size x + size y) (omega arith) (back_at (fields_of fields_in y) (size y) (count_of fields_in y) h'),
      )
  reads_of (Block.loop _ x t) zero r k h = absurd (omega arith)
  reads_of (Block.loop _ x t) (suc fuel) r k (more e h) =
      let end : suc r + size x + size t ≡ r + suc (size x + size t) = omega arith in
      reads_loop fuel r (r + suc (size x + size t)) (omega arith) (size x) e
      ∙ rw (
        ← end,
        reads_of x fuel (suc r) (omega arith) (front_part (fields_of fields_in x) _ h),
        reads_of t fuel (suc r + size x) (omega arith) (back_at (fields_of fields_in x) (size x) (count_of fields_in x) h),
      )
  reads_of (Block.fixed _ n x t) zero r k h = absurd (omega arith)
  reads_of (Block.fixed _ n x t) (suc fuel) r k (more e h) =
      let end : suc r + size x + size t ≡ r + suc (size x + size t) = omega arith in
      reads_fixed fuel r (r + suc (size x + size t)) (omega arith) (size x) n e
      ∙ rw (
        ← end,
        reads_of x fuel (suc r) (omega arith) (front_part (fields_of fields_in x) _ h),
        reads_of t fuel (suc r + size x) (omega arith) (back_at (fields_of fields_in x) (size x) (count_of fields_in x) h),
      )

pub block_reads : (g : ℕ → Fields) (x : Block Action) (fuel r : ℕ) → size x ≤ fuel → Holds g r (block_fields x) → block_of action_of fuel g r (r + size x) ≡ numbered r x
block_reads = reads_of action_fields action_of action_back action_leaf

pub body0_reads : (g : ℕ → Fields) (x : Block ℕ) (fuel r : ℕ) → size x ≤ fuel → Holds g r (fields_of call_fields x) → block_of call_of fuel g r (r + size x) ≡ numbered r x
body0_reads = reads_of call_fields call_of (λ b. refl) (λ b. refl)
