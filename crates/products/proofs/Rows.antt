-- Number 26 of the calls of a part of body 0, record by record.
use mathlib.Core.Path.{◌≡◌, refl}
use mathlib.Core.Bool.{Bool, true, false, cond, ◌&&◌, false≢true}
use mathlib.Core.List.{List, [], ◌∷◌, ◌++◌}
use Prim.Native.Nat.{ℕ, suc, ◌+◌, ◌*◌, ◌-◌, ◌≤◌, ◌<◌}
use native.Mathlib.Nat.{mul-one}
use native.Mathlib.Omega.{arith}
use lib.Dec.{eqb, ltb}
use borrow.Author.Tests.{eq-eqb, ne_eqb}
use Rattle.model.specs.Verdicts.{Verdict, Accepted, Refused}
use Rattle.model.specs.Blocks.{Block, largest}
use Rattle.model.specs.Judging.{Pass}
use Rattle.model.specs.Rows.{Row, row, answer_of}
use Rattle.model.proofs.Rows.{refused, holds, skips, empty, stop, pass}
use Rattle.reading.specs.declared.Fields.{Fields}
use Rattle.reading.specs.Bytes.{body_count, fields_at, nests, first_arm, second_arm, turns_of}
use Rattle.format.specs.Plans.{pass_at, declared_plan_of}
use Rattle.format.specs.Inner.Walks.{body0_between}
use Rattle.format.proofs.Walking.{good_parts, steps}
use Rattle.format.proofs.Acts.{turns_fit}
use Rattle.format.proofs.Trees.{is_branch, is_loop, is_fixed, is_leaf, shape, not_nesting, no_arms, own_turns, one_turn, body0_none, body0_branch, body0_loop, body0_fixed, body0_call, walk_of}
use Rattle.sizes.specs.Inner.Sizes.{DeclaredFile}
use Rattle.sizes.proofs.Fields.{call_body}
use Rattle.sizes.proofs.Passes.{call_pass}
use Rattle.sizes.proofs.Body0.{body0_kind}
use Rattle.products.specs.Products.{call_rows}
use Rattle.products.specs.Inner.Counts.{Within, too_many}
use Rattle.products.proofs.Counts.{Parts, parts}

-- the answer to the records r up to `end` of body 0, inside `around` turns
abbrev pub Answers : List ℕ → ℕ → ℕ → ℕ → Verdict → Type 0
Answers f around r end v = v ≡ answer_of (call_rows (declared_plan_of f).passes around (body0_between f r end))

-- record r of body 0 with the fields x, inside `around` turns
module _ (f : List ℕ) (file : DeclaredFile f) (around r end : ℕ) (h : r < end) (w : Within f 0 around r end) (x : Fields) (e : x ≡ fields_at f r) where
  abbrev passes : List Pass
  passes = (declared_plan_of f).passes

  abbrev rows : ℕ → ℕ → ℕ → List Row
  rows a r end = call_rows passes a (body0_between f r end)

  abbrev second : ℕ
  second = r + 1 + first_arm x

  abbrev next : ℕ
  next = second + second_arm x

  abbrev within : ℕ
  within = around * turns_of x

  -- its own row, where it is a call
  own : List Row
  own = cond (eqb x.kind 8) (row (ltb 4096 (around * largest (pass_at f x.p).body)) 26 r ∷ []) []

  called : nests x ≡ false → (x.kind ≡ 8) × (1 ≤ x.p) × (x.p < body_count f)
  called n =
      let g = good_parts f 0 w.depth around r end h w.good in
      let i = not_nesting x n in
      let k = rw (← e) at (body0_kind f file r g.tests.allows) in
      let eight : x.kind ≡ 8 = omega (arith, i, k) in
      let c = call_body f x (rw e g.tests.fits) eight in
      (eight, c.0, c.1)

  abbrev Split : Type 0
  Split = rows around r end ≡ own ++ (rows within (r + 1) second ++ (rows within second next ++ rows around next end))

  nested_own : (x.kind ≡ 8 → ⊥) → own ≡ []
  unfolding own
  nested_own k = rw (ne_eqb x.kind 8 k)

  no_second : (x.kind ≡ 6 → ⊥) → body0_between f second next ≡ Block.done
  unfolding second_arm
  no_second k = body0_none f second next (rw (ne_eqb x.kind 6 k) (omega arith))

  at_branch : x.kind ≡ 6 → Split
  unfolding call_rows
  at_branch k = rw (nested_own (λ z. omega arith), body0_branch f r end h (walk_of w.good) x e k, one_turn x (λ z. omega arith), mul-one)

  at_loop : x.kind ≡ 7 → Split
  unfolding call_rows
  at_loop k = rw (nested_own (λ z. omega arith), body0_loop f r end h (walk_of w.good) x e k, no_second (λ z. omega arith), one_turn x (λ z. omega arith), mul-one)

  at_fixed : x.kind ≡ 9 → Split
  unfolding call_rows
  at_fixed k =
      let q = turns_fit f x (steps f r end h (walk_of w.good) x e).fits k in
      let m : suc (x.q - 1) ≡ x.q = omega arith in
      rw (nested_own (λ z. omega arith), body0_fixed f r end h (walk_of w.good) x e k, no_second (λ z. omega arith), own_turns x k, m)

  at_call : nests x ≡ false → Split
  unfolding call_rows own
  at_call n =
      let c = called n in
      let a = no_arms x n in
      rw (eq-eqb x.kind 8 c.0, body0_call f r end h (walk_of w.good) x e n, body0_none f (r + 1) second (omega arith), body0_none f second next (omega arith), call_pass f x.p c.1 c.2)

  split : Split
  split = elim (shape x) [ is_branch k ↦ at_branch k | is_loop k ↦ at_loop k | is_fixed k ↦ at_fixed k | is_leaf n ↦ at_call n ]

  -- what the record's own row says
  pub call_fits : x.kind ≡ 8 → (1 ≤ x.p) × (x.p < body_count f)
  call_fits k = call_body f x (steps f r end h (walk_of w.good) x e).fits k

  own_holds : too_many f around x ≡ true → Refused 26 r ≡ answer_of own
  unfolding own too_many
  own_holds t = go (eqb x.kind 8) t
    where
      go : (b : Bool) → (b && ltb 4096 (around * largest (pass_at f x.p).body)) ≡ true → Refused 26 r ≡ answer_of (cond b (row (ltb 4096 (around * largest (pass_at f x.p).body)) 26 r ∷ []) [])
      go true t = holds _ _ _ _ t
      go false t = absurd (false≢true t)

  own_skips : too_many f around x ≡ false → Accepted ≡ answer_of own
  unfolding own too_many
  own_skips t = go (eqb x.kind 8) t
    where
      go : (b : Bool) → (b && ltb 4096 (around * largest (pass_at f x.p).body)) ≡ false → Accepted ≡ answer_of (cond b (row (ltb 4096 (around * largest (pass_at f x.p).body)) 26 r ∷ []) [])
      go true t = skips _ _ _ _ _ t empty
      go false t = empty

  pub at_own : too_many f around x ≡ true → Refused 26 r ≡ answer_of (rows around r end)
  at_own t = rw split (stop own _ _ (refused refl) (own_holds t))

-- such a record that was read, with arms of i and j records and n turns, and whose own row does not hold
pub record Read (f : List ℕ) (around r end : ℕ) (x : Fields) (i j n : ℕ) : Type 0 where
  pub file : DeclaredFile f
  pub less : r < end
  pub within : Within f 0 around r end
  pub fields : x ≡ fields_at f r
  pub one : i ≡ first_arm x
  pub two : j ≡ second_arm x
  pub turns : n ≡ turns_of x
  pub fits : too_many f around x ≡ false

module _ {f : List ℕ} {around r end : ℕ} {x : Fields} {i j n : ℕ} (d : Read f around r end x i j n) where
  pub parts_of : Parts f 0 around r end i j n
  parts_of = parts f 0 around r end d.less d.within x d.fields i j n d.one d.two d.turns

  abbrev part : ℕ → ℕ → ℕ → List Row
  part a r end = call_rows (declared_plan_of f).passes a (body0_between f r end)

  rows_are : part around r end ≡ own f d.file around r end d.less d.within x d.fields ++ (part (around * n) (r + 1) (r + 1 + i) ++ (part (around * n) (r + 1 + i) (r + 1 + i + j) ++ part around (r + 1 + i + j) end))
  rows_are = rw (d.one, d.two, d.turns) (split f d.file around r end d.less d.within x d.fields)

  module _ (v : Verdict) where
    later : v ≡ answer_of (part (around * n) (r + 1) (r + 1 + i) ++ (part (around * n) (r + 1 + i) (r + 1 + i + j) ++ part around (r + 1 + i + j) end)) → v ≡ answer_of (part around r end)
    later a = rw rows_are (pass _ _ v (own_skips f d.file around r end d.less d.within x d.fields d.fits) a)

    pub at_first : (v ≡ Accepted → ⊥) → v ≡ answer_of (part (around * n) (r + 1) (r + 1 + i)) → v ≡ answer_of (part around r end)
    at_first nay a = later (stop _ _ v nay a)

    module _ (one : Accepted ≡ answer_of (part (around * n) (r + 1) (r + 1 + i))) where
      pub at_second : (v ≡ Accepted → ⊥) → v ≡ answer_of (part (around * n) (r + 1 + i) (r + 1 + i + j)) → v ≡ answer_of (part around r end)
      at_second nay a = later (pass _ _ v one (stop _ _ v nay a))

      pub at_next : Accepted ≡ answer_of (part (around * n) (r + 1 + i) (r + 1 + i + j)) → v ≡ answer_of (part around (r + 1 + i + j) end) → v ≡ answer_of (part around r end)
      at_next two a = later (pass _ _ v one (pass _ _ v two a))

pub at_end : (f : List ℕ) (around r end : ℕ) → end ≤ r → Answers f around r end Accepted
unfolding call_rows
at_end f around r end h = rw (body0_none f r end h) empty
