-- How many steps without a choice are left at a place: no place is heavy, since along a nesting the product of the counts is at most 4,096.
use mathlib.Core.Path.{◌≡◌, refl}
use mathlib.Core.List.{List}
use Prim.Native.Nat.{ℕ, zero, suc, ◌+◌, ◌-◌, ◌*◌, ◌≤◌, ◌<◌}
use native.Mathlib.Decide.{dec_lt}
use native.Mathlib.Nat.{mul-le-mul_right}
use native.Mathlib.Omega.{arith}
use lib.ListN.{get_or}
use borrow.Author.Tests.{eq-eqb, ne_eqb}
use Rattle.model.specs.Records.{Action}
use Rattle.model.specs.Blocks.{Block, ◌then◌}
use Rattle.model.specs.Inner.Events.{after_turn}
use Rattle.reading.specs.declared.Fields.{Fields}
use Rattle.reading.specs.Bytes.{record_count, fields_at, first_arm, second_arm, turns_of}
use Rattle.format.specs.Inner.Walks.{Good, block_between}
use Rattle.format.proofs.Trees.{Shape, is_branch, is_loop, is_fixed, is_leaf, shape, not_nesting, block_none, block_branch, block_loop, block_fixed, block_act, walk_of}
use Rattle.format.proofs.Walking.{Parts as Tested, good_parts}
use Rattle.format.proofs.Acts.{turns_fit}
use Rattle.places.specs.Inner.Places.{Spot, begun_at, after_turns, left_in, rest_of, left_of, weight, Part, Parts, Placed}

pub weight_then : (a b : Block Action) → weight (a then b) ≡ weight a + weight b
weight_then Block.done b = omega arith
weight_then (Block.act r x a) b = omega (arith, weight_then a b)
weight_then (Block.branch r x y a) b = omega (arith, weight_then a b)
weight_then (Block.loop r x a) b = omega (arith, weight_then a b)
weight_then (Block.fixed r n x a) b = omega (arith, weight_then a b)

-- a turn of a fixed loop is one step
pub weight_turn : (r n : ℕ) (x b : Block Action) → weight (Block.fixed r n x b) ≡ 1 + weight (x then after_turn r n x b)
weight_turn r zero x b = omega (arith, weight_then x b)
weight_turn r (suc n) x b = omega (arith, weight_then x (Block.fixed r n x b))

-- turns that have begun make a block lighter
lighter : (n : ℕ) (b : Block Action) → weight (after_turns n b) ≤ weight b
lighter n Block.done = omega arith
lighter n (Block.act r x b) = omega arith
lighter n (Block.branch r x y b) = omega arith
lighter n (Block.loop r x b) = omega arith
lighter n (Block.fixed r m x b) = let h : m - n + 1 ≤ m + 1 = omega arith in omega (arith, mul-le-mul_right (1 + weight x) h)

-- a good block, by the product of the counts of the fixed loops that hold it
module _ (f : List ℕ) (b : ℕ) where
  abbrev Light : ℕ → ℕ → ℕ → Type 0
  Light around r end = around * weight (block_between f r end) ≤ 4096 * (end - r)

  one_turn : (x : Fields) → (x.kind ≡ 9 → ⊥) → turns_of x ≡ 1
  unfolding turns_of
  one_turn x nay = rw (ne_eqb x.kind 9 nay)

  all_turns : (x : Fields) → x.kind ≡ 9 → turns_of x ≡ x.q
  unfolding turns_of
  all_turns x k = rw (eq-eqb x.kind 9 k)

  module _ (depth around r end : ℕ) (h : r < end) (g : Good f b depth around r end) where
    abbrev x : Fields
    x = fields_at f r

    abbrev second : ℕ
    second = r + 1 + first_arm x

    abbrev next : ℕ
    next = second + second_arm x

    tested : Tested f b depth around r end
    tested = good_parts f b depth around r end h g

    -- a record that is no fixed loop is one step, or a choice is taken at it
    single : (x.kind ≡ 9 → ⊥) → weight (block_between f r end) ≡ 1 + weight (block_between f next end) → Light around next end → Light around r end
    single nay e rest =
        let few : around * 1 ≤ 4096 = rw (one_turn x nay) at tested.tests.few in
        rw e (omega (arith, few, rest, tested.tests.inside))

    -- a fixed loop is a step for each turn, and its body as often
    many : x.kind ≡ 9 → Light (around * turns_of x) (r + 1) second → Light around next end → Light around r end
    many k body rest =
        let t = all_turns x k in
        let few : around * x.q ≤ 4096 = rw t at tested.tests.few in
        let within : around * x.q * weight (block_between f (r + 1) second) ≤ 4096 * (second - (r + 1)) = rw t at body in
        let q : x.q - 1 + 1 ≡ x.q = omega (arith, turns_fit f x tested.tests.fits k) in
        rw (block_fixed f r end h (walk_of g) x refl k, q) (omega (arith, few, within, rest, tested.tests.inside))

    by_shape : Shape x → Light (around * turns_of x) (r + 1) second → Light around next end → Light around r end
    by_shape (is_branch k) body rest = single (λ z. omega arith) (rw (block_branch f r end h (walk_of g) x refl k)) rest
    by_shape (is_loop k) body rest = single (λ z. omega arith) (rw (block_loop f r end h (walk_of g) x refl k)) rest
    by_shape (is_fixed k) body rest = many k body rest
    by_shape (is_leaf k) body rest = single (not_nesting x k).2 (rw (block_act f r end h (walk_of g) x refl k)) rest

  light_block : (n depth around r end : ℕ) → end ≤ r + n → Good f b depth around r end → Light around r end
  light_block zero depth around r end l g = rw (block_none f r end (omega arith)) (omega arith)
  light_block (suc n) depth around r end l g = elim (dec_lt r end) [
    | yes h ↦
        let p = tested depth around r end h g in
        by_shape depth around r end h g (shape (fields_at f r)) (light_block n _ _ _ _ (omega (arith, p.tests.inside)) p.one) (light_block n _ _ _ _ (omega arith) p.rest)
    | no h ↦ rw (block_none f r end (omega arith)) (omega arith)
  ]

-- no place is heavy
module _ (f : List ℕ) (few : record_count f ≤ 1024) where
  light_in : (room : List ℕ) (d r end : ℕ) → Part f d r end → weight (left_in f room d r end) ≤ 4194304
  unfolding left_in
  light_in room d r end w =
      let block = block_between f r end in
      let all = light_block f 0 end d w.around r end (omega arith) w.good in
      omega (arith, lighter (begun_at room d) block, all, mul-le-mul_right (weight block) w.some, w.inside)

  light_rest : (room : List ℕ) (d : ℕ) → Parts f room d → weight (rest_of f room d) ≤ 4194304 * d
  unfolding rest_of Parts
  light_rest room zero p = omega arith
  light_rest room (suc d) p =
      let r = get_or room (49 + d) 0 in
      let end = get_or room (33 + d) 0 in
      omega (arith, weight_then (left_in f room d r end) (rest_of f room d), light_in room d r end p.0, light_rest room d p.2)

  pub light : (p : Spot) → Placed f p → weight (left_of f p) < 134217728
  unfolding left_of
  light p w = omega (arith, weight_then (left_in f p.room p.depth p.at p.end) (rest_of f p.room p.depth), light_in p.room p.depth p.at p.end w.here, light_rest p.room p.depth w.behind, w.shallow)
