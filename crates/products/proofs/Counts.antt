-- The largest product along a nesting, record by record, and that it is at most 4,096 in a file that opens.
use mathlib.Core.Path.{◌≡◌, refl, sym, ◌∙◌}
use mathlib.Core.Bool.{true, false}
use mathlib.Core.List.{List}
use Prim.Native.Nat.{ℕ, zero, suc, ◌+◌, ◌*◌, ◌-◌, max, ◌≤◌, ◌<◌}
use native.Nat.{ℕᴺ_discrete}
use native.Mathlib.Decide.{dec_lt}
use native.Mathlib.Nat.{one-mul, mul-one, mul_assoc, mul-le-mul, mul-le-mul_right}
use native.Mathlib.Omega.{arith}
use borrow.Author.Tests.{eq-eqb, ne_eqb, le-ltb}
use Rattle.model.specs.Blocks.{Block, largest}
use Rattle.model.proofs.Products.{largest_some}
use Rattle.reading.specs.declared.Fields.{Fields}
use Rattle.reading.specs.Bytes.{body_count, records_in, declarations_in, fields_at, nests, first_arm, second_arm, turns_of}
use Rattle.reading.proofs.Tables.{next_record}
use Rattle.rules.specs.Rules.{fields_fit}
use Rattle.contents.specs.Found.{found}
use Rattle.format.specs.Plans.{pass_at}
use Rattle.format.specs.Inner.Walks.{Walkable, block_between, body0_between}
use Rattle.format.proofs.Walking.{opened_facts, good_parts, steps}
use Rattle.format.proofs.Acts.{turns_fit}
use Rattle.format.proofs.Trees.{is_branch, is_loop, is_fixed, is_leaf, shape, not_nesting, no_arms, own_turns, one_turn, block_none, block_branch, block_loop, block_fixed, block_act, body0_none, body0_branch, body0_loop, body0_fixed, body0_call, walk_of, body0_good, pass_good}
use Rattle.passes.specs.declared.Extent.{Extent}
use Rattle.passes.specs.Inner.Passes.{extent_of, PassAt}
use Rattle.passes.proofs.Records.{facts, others_block}
use Rattle.sizes.specs.Inner.Sizes.{DeclaredFile}
use Rattle.sizes.proofs.Passes.{pass_stands}
use Rattle.products.specs.Inner.Counts.{Within, Counted, too_many}

-- a product of a maximum
pub largest_product : (a m n : ℕ) → a * m ≤ 4096 → a * n ≤ 4096 → a * max m n ≤ 4096
largest_product a m n h k = elim (dec_lt m n) [
  | yes l ↦ let e : max m n ≡ n = omega arith in rw e k
  | no l ↦ let e : max m n ≡ m = omega arith in rw e h
]

-- turns are at least 1
turns_some : (f : List ℕ) (x : Fields) → fields_fit f x ≡ true → 1 ≤ turns_of x
turns_some f x fits = elim (ℕᴺ_discrete x.kind 9) [
  | yes k ↦ rw (own_turns x k) (turns_fit f x fits k).0
  | no k ↦ rw (one_turn x k) (omega arith)
]

-- a block whose first record has the fields x, by its arms and the rest
module _ {A : Type 0} (x : Fields) (n : ℕ) (b one two rest : Block A) where
  abbrev Step : Type 0
  Step = largest b ≡ max (turns_of x * max (largest one) (largest two)) (largest rest)

  branch_step : b ≡ Block.branch n one two rest → x.kind ≡ 6 → Step
  branch_step e k = rw (e, one_turn x (λ z. omega arith), one-mul) (omega arith)

  loop_step : b ≡ Block.loop n one rest → two ≡ Block.done → x.kind ≡ 7 → Step
  loop_step e d k = rw (e, d, one_turn x (λ z. omega arith), one-mul) (omega (arith, largest_some one))

  fixed_step : b ≡ Block.fixed n (x.q - 1) one rest → two ≡ Block.done → x.kind ≡ 9 → 1 ≤ x.q → Step
  fixed_step e d k q =
      let m : suc (x.q - 1) ≡ x.q = omega arith in
      let l : max (largest one) 1 ≡ largest one = omega (arith, largest_some one) in
      rw (e, d, own_turns x k, m, l)

  leaf_step : (a : A) → b ≡ Block.act n a rest → one ≡ Block.done → two ≡ Block.done → nests x ≡ false → Step
  leaf_step a e c d k = rw (e, c, d, one_turn x (not_nesting x k).2) (omega (arith, largest_some rest))

module _ (f : List ℕ) (r end : ℕ) (h : r < end) (w : Walkable f r end) (x : Fields) (e : x ≡ fields_at f r) where
  abbrev second : ℕ
  second = r + 1 + first_arm x

  abbrev next : ℕ
  next = second + second_arm x

  no_second : (x.kind ≡ 6 → ⊥) → next ≤ second
  unfolding second_arm
  no_second k = rw (ne_eqb x.kind 6 k) (omega arith)

  -- of actions, and of calls
  pub block_step : Step x r (block_between f r end) (block_between f (r + 1) second) (block_between f second next) (block_between f next end)
  block_step = elim (shape x) [
    | is_branch k ↦ branch_step x r _ _ _ _ (block_branch f r end h w x e k) k
    | is_loop k ↦ loop_step x r _ _ _ _ (block_loop f r end h w x e k) (block_none f second next (no_second (λ z. omega arith))) k
    | is_fixed k ↦ fixed_step x r _ _ _ _ (block_fixed f r end h w x e k) (block_none f second next (no_second (λ z. omega arith))) k (turns_fit f x (steps f r end h w x e).fits k).0
    | is_leaf k ↦ let a = no_arms x k in leaf_step x r _ _ _ _ _ (block_act f r end h w x e k) (block_none f (r + 1) second (omega arith)) (block_none f second next (omega arith)) k
  ]

  pub body0_step : Step x r (body0_between f r end) (body0_between f (r + 1) second) (body0_between f second next) (body0_between f next end)
  body0_step = elim (shape x) [
    | is_branch k ↦ branch_step x r _ _ _ _ (body0_branch f r end h w x e k) k
    | is_loop k ↦ loop_step x r _ _ _ _ (body0_loop f r end h w x e k) (body0_none f second next (no_second (λ z. omega arith))) k
    | is_fixed k ↦ fixed_step x r _ _ _ _ (body0_fixed f r end h w x e k) (body0_none f second next (no_second (λ z. omega arith))) k (turns_fit f x (steps f r end h w x e).fits k).0
    | is_leaf k ↦ let a = no_arms x k in leaf_step x r _ _ _ _ _ (body0_call f r end h w x e k) (body0_none f (r + 1) second (omega arith)) (body0_none f second next (omega arith)) k
  ]

-- record r with the fields x, its arms of i and j records and its n turns, inside `around` turns
pub record Parts (f : List ℕ) (b around r end : ℕ) (i j n : ℕ) : Type 0 where
  pub inside : r + 1 + i + j ≤ end
  pub product : around * n ≤ 4096
  pub one : Within f b (around * n) (r + 1) (r + 1 + i)
  pub two : Within f b (around * n) (r + 1 + i) (r + 1 + i + j)
  pub rest : Within f b around (r + 1 + i + j) end

pub parts : (f : List ℕ) (b around r end : ℕ) → r < end → Within f b around r end → (x : Fields) → x ≡ fields_at f r → (i j n : ℕ) → i ≡ first_arm x → j ≡ second_arm x → n ≡ turns_of x → Parts f b around r end i j n
parts f b around r end h w x e i j n p q t =
    let g = good_parts f b w.depth around r end h w.good in
    let some = mul-le-mul w.some (turns_some f (fields_at f r) g.tests.fits) in
    rw (p, q, t, e) (record {
      inside = g.tests.inside;
      product = g.tests.few;
      one = record { depth = w.depth + 1; some = omega arith; few = g.tests.few; good = g.one };
      two = record { depth = w.depth + 1; some = omega arith; few = g.tests.few; good = g.two };
      rest = record { depth = w.depth; some = w.some; few = w.few; good = g.rest };
    })

-- a block whose records all pass their tests inside `around` turns
module _ {A : Type 0} (f : List ℕ) (block : ℕ → ℕ → Block A) (none : (r end : ℕ) → end ≤ r → block r end ≡ Block.done)
    (step : (r end : ℕ) → r < end → Walkable f r end → Step (fields_at f r) r (block r end) (block (r + 1) (r + 1 + first_arm (fields_at f r))) (block (r + 1 + first_arm (fields_at f r)) (r + 1 + first_arm (fields_at f r) + second_arm (fields_at f r))) (block (r + 1 + first_arm (fields_at f r) + second_arm (fields_at f r)) end)) where
  low_end : (around r end : ℕ) → end ≤ r → around ≤ 4096 → around * largest (block r end) ≤ 4096
  low_end around r end h k = rw (none r end h, mul-one) k

  low : (fuel b around r end : ℕ) → end ≤ r + fuel → Within f b around r end → around * largest (block r end) ≤ 4096
  low zero b around r end l w = low_end around r end (omega arith) w.few
  low (suc fuel) b around r end l w = elim (dec_lt r end) [
    | no h ↦ low_end around r end (omega arith) w.few
    | yes h ↦
        let x = fields_at f r in
        let p = parts f b around r end h w x refl _ _ _ refl refl refl in
        let t = turns_of x in
        let one = low fuel b (around * t) _ _ (omega (arith, p.inside)) p.one in
        let two = low fuel b (around * t) _ _ (omega (arith, p.inside)) p.two in
        let rest = low fuel b around _ _ (omega (arith, p.inside)) p.rest in
        let arms = rw (mul_assoc around t) at (largest_product (around * t) _ _ one two) in
        rw (step r end h (walk_of w.good)) (largest_product around _ _ arms rest)
  ]

-- the records of a pass, and those of body 0
pub block_low : (f : List ℕ) (r end : ℕ) → Counted f r end → largest (block_between f r end) ≤ 4096
block_low f r end c =
    let l = low f (block_between f) (block_none f) (λ r end h w. block_step f r end h w (fields_at f r) refl) end c.body c.around r end (omega arith) c.within in
    omega (arith, l, mul-le-mul_right (largest (block_between f r end)) c.within.some, one-mul (largest (block_between f r end)))

pub body0_low : (f : List ℕ) (b around r end : ℕ) → Within f b around r end → around * largest (body0_between f r end) ≤ 4096
body0_low f b around r end w = low f (body0_between f) (body0_none f) (λ r end h w. body0_step f r end h w (fields_at f r) refl) end b around r end (omega arith) w

-- record r with the fields x, its arms of i and j records and its n turns, whatever the turns around it
abbrev pub product_of : List ℕ → ℕ → ℕ → ℕ
product_of f r end = largest (block_between f r end)

pub record Arms (f : List ℕ) (r end i j : ℕ) : Type 0 where
  pub inside : r + 1 + i + j ≤ end
  pub one : Counted f (r + 1) (r + 1 + i)
  pub two : Counted f (r + 1 + i) (r + 1 + i + j)
  pub rest : Counted f (r + 1 + i + j) end

module _ (f : List ℕ) (r end : ℕ) (h : r < end) (c : Counted f r end) (x : Fields) (e : x ≡ fields_at f r) (i j : ℕ) (p : i ≡ first_arm x) (q : j ≡ second_arm x) where
  pub arms_of : Arms f r end i j
  arms_of =
      let g = parts f c.body c.around r end h c.within x e i j _ p q refl in
      record {
        inside = g.inside;
        one = record { body = c.body; around = _; within = g.one };
        two = record { body = c.body; around = _; within = g.two };
        rest = record { body = c.body; around = c.around; within = g.rest };
      }

  module _ (n a b : ℕ) (t : n ≡ turns_of x) (u : a ≡ product_of f (r + 1) (r + 1 + i)) (v : b ≡ product_of f (r + 1 + i) (r + 1 + i + j)) where
    step_is : product_of f r end ≡ max (n * max a b) (product_of f (r + 1 + i + j) end)
    step_is = rw (u, v, t, p, q) (block_step f r end h (walk_of c.within.good) x e)

    pub product_low : n * max a b ≤ 4096
    product_low = omega (arith, step_is, block_low f r end c)

    pub product_next : (most all : ℕ) → max most (product_of f r end) ≡ all → max (max (n * max a b) most) (product_of f (r + 1 + i + j) end) ≡ all
    product_next most all k = omega (arith, step_is)

pub product_first : (f : List ℕ) (r end : ℕ) → max 1 (product_of f r end) ≡ product_of f r end
product_first f r end = omega (arith, largest_some (block_between f r end))

pub product_last : (f : List ℕ) (r end most : ℕ) → end ≤ r → 1 ≤ most → max most (product_of f r end) ≡ most
product_last f r end most h k = rw (block_none f r end h) (omega arith)

-- where they stand
pub others_counted : (f : List ℕ) (e : Extent) → PassAt f e → Counted f (e.from + e.declarations) (e.from + e.records)
others_counted f e p =
    let g = pass_good f (facts f e p) p.declared e.body p.low p.high (declarations_in f e.body) (omega arith) in
    rw (p.from_is, p.declarations_are, p.records_are) (record {
      body = e.body;
      around = 1;
      within = record { depth = 0; some = omega arith; few = omega arith; good = rw (next_record f e.body p.high) at g };
    })

pub pass_product : (f : List ℕ) (e : Extent) → PassAt f e → (b n : ℕ) → e.body ≡ b → n ≡ product_of f (e.from + e.declarations) (e.from + e.records) → n ≡ largest (pass_at f b).body
pass_product f e p b n k h = h ∙ rw (← k, others_block f e p)

-- a pass by itself does not pass 4,096
pub alone : (f : List ℕ) → DeclaredFile f → (x : Fields) → (1 ≤ x.p) × (x.p < body_count f) → x.kind ≡ 8 → too_many f 1 x ≡ false
unfolding too_many
alone f file x c k =
    let e = extent_of (found f) x.p in
    let p = pass_stands f file (found f) refl x.p c.0 c.1 e refl in
    rw (eq-eqb x.kind 8 k, one-mul, ← pass_product f e p x.p _ refl refl) (le-ltb _ _ (block_low f _ _ (others_counted f e p)))

-- a call that no fixed loop holds
pub alone_around : (f : List ℕ) (around : ℕ) (x : Fields) → DeclaredFile f → (x.kind ≡ 8 → (1 ≤ x.p) × (x.p < body_count f)) → x.kind ≡ 8 → around ≡ 1 → false ≡ too_many f around x
alone_around f around x file c k one = rw one (sym (alone f file x (c k) k))

pub body0_within : (f : List ℕ) → DeclaredFile f → Within f 0 1 0 (records_in f 0)
body0_within f file = record { depth = 0; some = omega arith; few = omega arith; good = body0_good f (opened_facts f file.opened) }
