-- A walk over the records of a block: the records read so far make a block of which it is known what is found, and it goes on with the block of those left.
use Prim.Native.Nat.{ℕ, ◌+◌, ◌-◌, ◌≤◌, ◌<◌}
use mathlib.Core.Path.{◌≡◌, refl, sym, ap, subst, ◌∙◌}
use mathlib.Core.Bool.{true, false}
use mathlib.Core.List.{List}
use native.Mathlib.Omega.{arith}
use borrow.Author.Tests.{eq-eqb, ne_eqb}
use Rattle.model.specs.Sides.{span_of}
use Rattle.model.specs.Records.{Action}
use Rattle.model.specs.Blocks.{Block, done, act, branch, loop, fixed, ◌then◌}
use Rattle.model.proofs.Through.{then_done}
use Rattle.model.proofs.Demand.Blocks.{then_assoc}
use Rattle.reading.specs.declared.Fields.{Fields}
use Rattle.reading.specs.Bytes.{layout_of, record_count, fields_at, first_arm, second_arm}
use Rattle.format.specs.Plans.{side_of, verb_of, action_of}
use Rattle.format.specs.Inner.Walks.{Walkable, block_between}
use Rattle.format.proofs.Trees.{is_branch, is_loop, is_fixed, is_leaf, shape, acts, block_none, block_branch, block_loop, block_fixed}
use Rattle.format.proofs.Acts.{Arms}
use Rattle.statuses.specs.declared.acts.Found.{Found}
use Rattle.lookahead.specs.Inner.Ahead.{cell_at, covers}
use Rattle.statuses.specs.Inner.Sets.{In, touched_met, touched_after}
use Rattle.statuses.specs.Inner.Ran.{Ran}
use Rattle.summary.specs.Inner.Ways.{Body, nest}
use Rattle.summary.proofs.Actions.{next_act, act_covers}
use Rattle.summary.proofs.Ways.{Found_in, ran_none, ran_then, ran_touched}
use Rattle.summary.proofs.Skips.{ran_skip}
use Rattle.summary.proofs.Passing.{Skipped}

-- t is what is found of the records from `from` up to r, of those up to `end`, for cell c
pub record Prefix (f : List ℕ) (c from r end : ℕ) (start t : Found) : Type 0 where
  pub before : Block Action
  pub joins : before then block_between f r end ≡ block_between f from end
  pub ran : Found_in (layout_of f) c before (In start.set) start.low t

-- the first arm of record r
pub body_here : (f : List ℕ) (r end i j : ℕ) (x : Fields) → x ≡ fields_at f r → i ≡ first_arm x → end ≤ record_count f → Arms f r end i j → Body f (record { r = r; second = r + 1 + i })
body_here f r end i j x e ei l a = record { ends = rw (ei, e); below = omega (arith, a.inside); walk = a.one }

module _ (f : List ℕ) (c from end : ℕ) (start : Found) where
  pub prefix_none : Prefix f c from from end start start
  prefix_none = record { before = done; joins = refl; ran = ran_none (layout_of f) c start }

  -- the records from r up to `next` make block b
  pub prefix_more : (t t' : Found) (r next : ℕ) (b : Block Action) → Prefix f c from r end start t → block_between f r end ≡ b then block_between f next end →
      Found_in (layout_of f) c b (In t.set) t.low t' → Prefix f c from next end start t'
  prefix_more t t' r next b p e n = record {
    before = p.before then b;
    joins = then_assoc p.before b (block_between f next end) ∙ (ap (λ x. p.before then x) (sym e) ∙ p.joins);
    ran = ran_then (layout_of f) c p.before b (In start.set) start.low t t' p.ran n;
  }

  pub prefix_all : (t : Found) (r : ℕ) → end ≤ r → Prefix f c from r end start t → Found_in (layout_of f) c (block_between f from end) (In start.set) start.low t
  prefix_all t r h p = subst (λ b. Found_in (layout_of f) c b (In start.set) start.low t)
      (sym (then_done p.before) ∙ (ap (λ x. p.before then x) (sym (block_none f r end h)) ∙ p.joins)) p.ran

  -- the walk passes by what leaves the cell alone
  pub prefix_skip : (t : Found) (r next : ℕ) → Prefix f c from r end start t → Skipped f c r next end → Prefix f c from next end start t
  prefix_skip t r next p s = prefix_more t t r next s.passed p (sym s.joins) (ran_skip (layout_of f) c s.passed s.untouched t)

-- record r, whose fields x were read, for cell c
module _ (f : List ℕ) (c from end r : ℕ) (h : r < end) (g : Walkable f r end) (x : Fields) (e : x ≡ fields_at f r) (start t t' : Found) (p : Prefix f c from r end start t) where
  -- it covers the cell
  pub step_act : (array offset : ℕ) → c ≡ cell_at f array offset → offset < (span_of (layout_of f) array).length → (1 ≤ x.kind) × (x.kind ≤ 5) → covers x array offset ≡ true →
      Ran (λ u v. touched_after (verb_of x.kind) (side_of x.side) u ≡ v) (λ u n. (r ≡ n) × (touched_met (verb_of x.kind) (side_of x.side) u ≡ false)) (In t.set) t.low t' →
      Prefix f c from (r + 1) end start t'
  unfolding action_of
  step_act array offset is inside k u m = prefix_more f c from end start t t' r (r + 1) (act r (action_of x) done) p (next_act x k f r end h g e)
      (ran_touched (layout_of f) c r (action_of x) t t' (rw is (act_covers x k f array offset inside) ∙ u) m)

  module _ (low : 6 ≤ x.kind) (high : x.kind ≤ 9) (no_call : x.kind ≡ 8 → ⊥) (i j : ℕ) (ei : i ≡ first_arm x) (ej : j ≡ second_arm x) where
    pub step_arms : Found_in (layout_of f) c (nest x r (block_between f (r + 1) (r + 1 + i)) (block_between f (r + 1 + i) (r + 1 + i + j))) (In t.set) t.low t' →
        Prefix f c from (r + 1 + i + j) end start t'
    step_arms m =
        let first = block_between f (r + 1) (r + 1 + i) in
        let second = block_between f (r + 1 + i) (r + 1 + i + j) in
        let on = prefix_more f c from end start t t' r (r + 1 + i + j) in
        elim (shape x) [
          | is_branch z ↦ on (branch r first second done) p (rw (ei, ej) (block_branch f r end h g x e z)) (rw (eq-eqb x.kind 6 z) at m)
          | is_loop z ↦ on (loop r first done) p (rw (ei, ej) (block_loop f r end h g x e z)) (rw (ne_eqb x.kind 6 (λ y. omega arith), ne_eqb x.kind 9 (λ y. omega arith)) at m)
          | is_fixed z ↦ on (fixed r (x.q - 1) first done) p (rw (ei, ej) (block_fixed f r end h g x e z)) (rw (ne_eqb x.kind 6 (λ y. omega arith), eq-eqb x.kind 9 z) at m)
          | is_leaf z ↦ absurd (let y = acts x (omega arith, high, no_call) z in omega arith)
        ]
