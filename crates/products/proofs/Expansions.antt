-- Where number 26 is not the expander's answer, no product in the expansion passes 4,096.
use mathlib.Core.Path.{◌≡◌, refl, ◌∙◌}
use mathlib.Core.List.{List, [], ◌∷◌}
use Prim.Native.Nat.{ℕ, suc, ◌+◌, ◌*◌, max, ◌≤◌}
use native.Mathlib.Nat.{one-mul, mul_assoc, mul-le-mul_left, le-max_left, le-max_right}
use native.Mathlib.Omega.{arith}
use borrow.Author.Tests.{ltb-false}
use Rattle.model.specs.Verdicts.{Accepted}
use Rattle.model.specs.Sides.{Side}
use Rattle.model.specs.Records.{Action}
use Rattle.model.specs.Blocks.{Block, size, largest, ◌then◌, numbered}
use Rattle.model.specs.Judging.{Mode, R, W, RW, Declaration, Pass, pass_of}
use Rattle.model.specs.Expanding.{given, expand, expansion}
use Rattle.model.specs.Inner.Declared.{declaration, declared}
use Rattle.model.specs.Rows.{answer_of}
use Rattle.model.proofs.Products.{largest_some}
use Rattle.model.proofs.Rows.{skipped, passed}
use Rattle.reading.specs.Bytes.{records_in}
use Rattle.format.specs.Plans.{declared_plan_of}
use Rattle.format.proofs.Walking.{opened_facts}
use Rattle.format.proofs.Trees.{body0_body}
use Rattle.sizes.specs.Inner.Sizes.{DeclaredFile}
use Rattle.products.specs.Products.{call_rows}
use Rattle.products.proofs.Counts.{largest_product, body0_low, body0_within}

module _ {A : Type 0} where
  -- one block and then another, and a block numbered anew
  then_largest : (a b : Block A) → largest (a then b) ≡ max (largest a) (largest b)
  then_largest Block.done b = omega (arith, largest_some b)
  then_largest (Block.act r x a) b = then_largest a b
  then_largest (Block.branch r x y a) b = omega (arith, then_largest a b)
  then_largest (Block.loop r x a) b = omega (arith, then_largest a b)
  then_largest (Block.fixed r n x a) b = omega (arith, then_largest a b)

  numbered_largest : (r : ℕ) (b : Block A) → largest (numbered r b) ≡ largest b
  numbered_largest r Block.done = refl
  numbered_largest r (Block.act _ x b) = numbered_largest (suc r) b
  numbered_largest r (Block.branch _ x y b) = rw (numbered_largest (suc r) x, numbered_largest (suc r + size x) y, numbered_largest (suc r + size x + size y) b)
  numbered_largest r (Block.loop _ x b) = rw (numbered_largest (suc r) x, numbered_largest (suc r + size x) b)
  numbered_largest r (Block.fixed _ n x b) = rw (numbered_largest (suc r) x, numbered_largest (suc r + size x) b)

-- what declarations give has no fixed loops
given_largest : (m : Mode) (s : Side) (a : ℕ) (b : Block Action) → largest (given (declaration m s a) b) ≡ largest b
given_largest R s a b = refl
given_largest W s a b = refl
given_largest RW s a b = refl

declared_largest : (ds : List Declaration) (b : Block Action) → largest (declared ds b) ≡ largest b
declared_largest [] b = refl
declared_largest (d ∷ ds) b = given_largest d.mode d.side d.array (declared ds b) ∙ declared_largest ds b

-- the products of a part, from those of the whole
module _ (around m n : ℕ) (h : around * max m n ≤ 4096) where
  left_low : around * m ≤ 4096
  left_low = omega (arith, mul-le-mul_left around (le-max_left m n))

  right_low : around * n ≤ 4096
  right_low = omega (arith, mul-le-mul_left around (le-max_right m n))

-- a part of body 0 inside `around` turns, and its expansion
pub expanded_low : (passes : List Pass) (around : ℕ) (t : Block ℕ) → Accepted ≡ answer_of (call_rows passes around t) → around * largest t ≤ 4096 → around * largest (expand passes t) ≤ 4096
unfolding call_rows
expanded_low passes around Block.done e h = h
expanded_low passes around (Block.act r b t) e h =
    let s = skipped _ _ _ _ e in
    let p = pass_of passes b in
    rw (declared_largest p.declarations (p.body then expand passes t), then_largest p.body (expand passes t))
    (largest_product around (largest p.body) (largest (expand passes t)) (ltb-false 4096 (around * largest p.body) s.0) (expanded_low passes around t s.1 h))
expanded_low passes around (Block.branch r x y t) e h =
    let u = passed (call_rows passes around x) _ e in
    let v = passed (call_rows passes around y) _ u.1 in
    let rest = right_low around (largest x) (max (largest y) (largest t)) h in
    largest_product around (largest (expand passes x)) _ (expanded_low passes around x u.0 (left_low around (largest x) (max (largest y) (largest t)) h))
    (largest_product around (largest (expand passes y)) _ (expanded_low passes around y v.0 (left_low around (largest y) (largest t) rest)) (expanded_low passes around t v.1 (right_low around (largest y) (largest t) rest)))
expanded_low passes around (Block.loop r x t) e h =
    let u = passed (call_rows passes around x) _ e in
    largest_product around (largest (expand passes x)) _ (expanded_low passes around x u.0 (left_low around (largest x) (largest t) h)) (expanded_low passes around t u.1 (right_low around (largest x) (largest t) h))
expanded_low passes around (Block.fixed r n x t) e h =
    let u = passed (call_rows passes (around * suc n) x) _ e in
    let one = rw (← mul_assoc around (suc n) (largest x)) at (left_low around (suc n * largest x) (largest t) h) in
    let arm = rw (mul_assoc around (suc n) (largest (expand passes x))) at (expanded_low passes (around * suc n) x u.0 one) in
    largest_product around (suc n * largest (expand passes x)) _ arm (expanded_low passes around t u.1 (right_low around (suc n * largest x) (largest t) h))

-- the whole expansion of a file that opens
pub expansion_low : (f : List ℕ) → DeclaredFile f → Accepted ≡ answer_of (call_rows (declared_plan_of f).passes 1 (declared_plan_of f).body0) → largest (expansion (declared_plan_of f)).body ≤ 4096
expansion_low f file e =
    let plan = declared_plan_of f in
    let body0 = rw (← body0_body f (opened_facts f file.opened)) at (body0_low f 0 1 0 (records_in f 0) (body0_within f file)) in
    rw (numbered_largest 0 (expand plan.passes plan.body0)) (rw one-mul at (expanded_low plan.passes 1 plan.body0 e body0))
