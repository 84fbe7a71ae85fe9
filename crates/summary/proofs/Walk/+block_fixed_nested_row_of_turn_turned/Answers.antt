use mathlib.Core.Path.{◌≡◌, refl, sym, ap, ◌∙◌}
use mathlib.Core.List.{List}
use native.Mathlib.Omega.{arith}
use Prim.Native.Nat.{ℕ, ◌+◌, ◌*◌, ◌<◌, ◌≤◌}
use lib.ListN.{length, get_or}
use borrow.Author.Tests.{eqb-true}
use Rattle.std.proofs.lemmas.List.{get_or_read_under}
use Rattle.std.specs.Prelude.{Option, None, Some, MatchOption}
use Rattle.model.specs.declared.Record.{Record}
use Rattle.reading.specs.declared.Fields.{Fields}
use Rattle.reading.specs.Bytes.{record_count, fields_at}
use Rattle.format.specs.Inner.Walks.{Walkable}
use Rattle.format.proofs.Acts.{Here, here, arms, after_act}
use Rattle.summary.specs.declared.Row.{Row}
use Rattle.summary.specs.declared.Walk.{Walk}
use Rattle.summary.specs.Inner.Ways.{blank, Ready, cell_of}
use Rattle.summary.proofs.Turns.{turning_none, turning_all, turning_more}
use Rattle.summary.proofs.Powers.{part_none, part_all, part_more, turns_all, turns_on}
use Rattle.summary.proofs.Keeping.{exact_lower, ready_again, row_known, row_kept, passed_branch}
use Rattle.summary.proofs.Passing.{Skipped, skip_on, skip_rest, skip_to}
use Rattle.summary.proofs.Prefixes.{body_here, prefix_all, prefix_skip, step_act, step_arms}
use Rattle.summary.proofs.Walk.+block_fixed_nested_row_of_turn_turned.Goals as goal

-- from record `at` on to the next record that concerns the cell
skipped : {walk : Walk} {rows : List Row} {low : Option Record} {at end n : ℕ} → Ready walk rows low → Walkable walk.plan.file.now at end → end ≤ record_count walk.plan.file.now → at ≤ end → n ≡ get_or walk.ahead.now at 0 → n < end →
    Skipped walk.plan.file.now (cell_of walk.class) at n end
skipped p g few h e l = skip_on _ _ p.plain _ _ _ p.is p.inside _ p.leads _ _ _ g few h e l

-- and what is known of it once it is read
read_there : {walk : Walk} {rows : List Row} {low : Option Record} {at end n : ℕ} {x : Fields} → Ready walk rows low → Walkable walk.plan.file.now at end → end ≤ record_count walk.plan.file.now → at ≤ end → n ≡ get_or walk.ahead.now at 0 → n < end →
    x ≡ fields_at walk.plan.file.now n → Here walk.plan.file.now n end x
read_there p g few h e l q = here _ _ _ _ p.plain l few (skipped p g few h e l).walk _ q

-- what holds where there is none
match_none : (A : Type 0) (B : ℕ → Type 0) (o : Option ℕ) → MatchOption o A B → ((x : ℕ) → o ≡ Some x → ⊥) → A
match_none A B None m n = m
match_none A B (Some x) m n = absurd (n x refl)

pub block-returns-then-end-r : goal.block-returns-then-end-r
block-returns-then-end-r t c =
    let l = c.loop-t in
    let p = c.requires in
    let s = skip_rest _ _ p.0.plain _ _ _ p.0.is p.0.inside _ p.0.leads _ _ _ l.invariant.2 p.2 l.invariant.1 refl c.if-end-r.true in
    record { ran = prefix_all _ _ _ _ _ _ _ (omega arith) (prefix_skip _ _ _ _ _ _ _ _ l.invariant.3 s); exact = l.invariant.4 }

pub block-nested-t-requires : goal.block-nested-t-requires
block-nested-t-requires t c =
    let w = c.requires in
    let s = skipped w.0 c.loop-t.invariant.2 w.2 c.loop-t.invariant.1 refl c.if-end-r.false in
    let k = read_there w.0 c.loop-t.invariant.2 w.2 c.loop-t.invariant.1 refl c.if-end-r.false c.record-x.ensures in
    let n = arms k.steps _ _ c.first_arm.ensures.arm c.second_arm.ensures.arm in
    (omega (arith, c.loop-t.invariant.0, s.later, n.inside), (ready_again w.0 c.loop-t.invariant.4, body_here _ _ _ _ _ _ c.record-x.ensures c.first_arm.ensures.arm w.2 n, omega arith, omega (arith, n.inside, w.2), n.two, λ z. (k.turns z).0))

pub block-loop-t-smaller-then-x-ge-BRANCH : goal.block-loop-t-smaller-then-x-ge-BRANCH
block-loop-t-smaller-then-x-ge-BRANCH t c =
    let w = c.requires in
    let s = skipped w.0 c.loop-t.invariant.2 w.2 c.loop-t.invariant.1 refl c.if-end-r.false in
    omega (arith, (arms (read_there w.0 c.loop-t.invariant.2 w.2 c.loop-t.invariant.1 refl c.if-end-r.false c.record-x.ensures).steps _ _ c.first_arm.ensures.arm c.second_arm.ensures.arm).inside, s.later)

pub block-loop-t-preserved-then-x-ge-BRANCH : goal.block-loop-t-preserved-then-x-ge-BRANCH
block-loop-t-preserved-then-x-ge-BRANCH t c =
    let w = c.requires in
    let s = skipped w.0 c.loop-t.invariant.2 w.2 c.loop-t.invariant.1 refl c.if-end-r.false in
    let k = read_there w.0 c.loop-t.invariant.2 w.2 c.loop-t.invariant.1 refl c.if-end-r.false c.record-x.ensures in
    let n = arms k.steps _ _ c.first_arm.ensures.arm c.second_arm.ensures.arm in
    let l = c.loop-t in (
      omega (arith, l.invariant.0, s.later),
      n.inside,
      n.rest,
      step_arms _ _ _ _ _ c.if-end-r.false s.walk _ c.record-x.ensures _ _ _ (prefix_skip _ _ _ _ _ _ _ _ l.invariant.3 s) c.if-x-ge-BRANCH.true k.high k.no_call _ _ c.first_arm.ensures.arm c.second_arm.ensures.arm c.nested-t.ensures.ran,
      c.nested-t.ensures.exact,
      c.nested-t.auto.rows ∙ l.invariant.5,
    )

pub block-overflow_cast-r : goal.block-overflow_cast-r
block-overflow_cast-r t c = omega (arith, (read_there c.requires.0 c.loop-t.invariant.2 c.requires.2 c.loop-t.invariant.1 refl c.if-end-r.false c.record-x.ensures).few)

pub block-acted-t-requires : goal.block-acted-t-requires
block-acted-t-requires t c = let k = read_there c.requires.0 c.loop-t.invariant.2 c.requires.2 c.loop-t.invariant.1 refl c.if-end-r.false c.record-x.ensures in (k.low, omega arith, k.side (omega arith), omega (arith, k.few))

pub block-loop-t-smaller : goal.block-loop-t-smaller
block-loop-t-smaller t c = omega (arith, (skipped c.requires.0 c.loop-t.invariant.2 c.requires.2 c.loop-t.invariant.1 refl c.if-end-r.false).later, c.if-end-r.false)

pub block-loop-t-preserved : goal.block-loop-t-preserved
block-loop-t-preserved t c =
    let p = c.requires in
    let s = skipped p.0 c.loop-t.invariant.2 p.2 c.loop-t.invariant.1 refl c.if-end-r.false in
    let k = read_there p.0 c.loop-t.invariant.2 p.2 c.loop-t.invariant.1 refl c.if-end-r.false c.record-x.ensures in
    let l = c.loop-t in
    let low : c.record-x.result.kind ≤ 5 = omega arith in (
      omega (arith, l.invariant.0, s.later),
      omega (arith, c.if-end-r.false),
      after_act k.steps low,
      step_act _ _ _ _ _ c.if-end-r.false s.walk _ c.record-x.ensures _ _ _ (prefix_skip _ _ _ _ _ _ _ _ l.invariant.3 s) _ _ p.0.is p.0.inside (k.low, low)
          (skip_to _ _ p.0.plain _ _ _ p.0.is p.0.inside _ p.0.leads _ _ _ l.invariant.2 p.2 l.invariant.1 refl c.if-end-r.false _ c.record-x.ensures (omega arith))
          c.acted-t.ensures,
      exact_lower _ _ _ _ _ _ c.acted-t.ensures.lower l.invariant.4,
      l.invariant.5,
    )

pub fixed-loop-i-preserved : goal.fixed-loop-i-preserved
fixed-loop-i-preserved t c =
    let e = c.passed_over-i.ensures in
    let o = c.turn-t in
    let l = c.loop-i in
    (e.1, turns_on _ _ _ _ _ _ _ _ l.invariant.1 o.ensures.ran _ e.0 e.2 _ (λ same. eqb-true _ _ (sym c.eq.ensures ∙ same)) e.3, o.ensures.exact, o.auto.rows ∙ l.invariant.3)

pub fixed-returns : goal.fixed-returns
fixed-returns t c =
    let l = c.loop-i in
    record { ran = turns_all _ _ _ _ c.args.arm.r _ _ _ _ l.invariant.1 (omega (arith, l.invariant.0, c.loop-i-test.false, c.requires.2)); exact = l.invariant.2 }

pub nested-returns-then-x-eq-BRANCH : goal.nested-returns-then-x-eq-BRANCH
nested-returns-then-x-eq-BRANCH t c = passed_branch _ _ _ c.args.x _ _ _ _ _ _ _ _ _ _ c.if-x-eq-BRANCH.true c.union.ensures refl c.block-one.ensures c.block-two.ensures

pub row_of-returns-then-known-self : goal.row_of-returns-then-known-self
row_of-returns-then-known-self t c =
    let p = c.requires in
    let inside : 16 * c.args.arm.r + c.args.w < length c.args.rows.now = omega (arith, p.1.ends, p.1.below, p.0.exact.room.long) in
    let e : c.index-rows-at.result ≡ get_or c.args.rows.now (16 * c.args.arm.r + c.args.w) blank = get_or_read_under _ _ _ _ blank c.index-rows-at.is inside refl in
    row_known _ _ _ _ _ p.2 p.1 _ _ _ p.0.exact (rw (← e) c.if-known-self.true) (ap (λ (y : Row). y.exits) e) refl

pub row_of-returns : goal.row_of-returns
row_of-returns t c = let p = c.requires in row_kept _ _ _ _ _ p.2 p.1 _ _ _ _ _ refl refl c.only.ensures c.block-t.ensures

pub turn-loop-w-init : goal.turn-loop-w-init
turn-loop-w-init t c = record {
  can = tt;
  ends = tt;
  part = rw (c.into_iter-w-iterator.ensures.into_iter_gives, c.members-w-items.ensures) (part_none _ _ _ _ _ _ refl refl);
  exact = c.requires.0.exact;
  size = refl;
}

pub turn-row_of-row-requires : goal.turn-row_of-row-requires
turn-row_of-row-requires t c = (omega arith, (ready_again c.requires.0 c.loop-w.invariant.exact, c.requires.1, c.in-Some.ensures.steps.0))

pub turn-loop-w-preserved : goal.turn-loop-w-preserved
turn-loop-w-preserved t c =
    let w = c.in-Some.ensures.steps in
    let r = c.row_of-row.ensures in
    record {
      can = tt;
      ends = tt;
      part = part_more _ _ _ _ _ _ _ c.loop-w.invariant.part c.in-Some.w w.0 w.1 _ _ _ r.ran c.union.ensures refl w.3;
      exact = r.exact;
      size = c.row_of-row.auto.rows ∙ c.loop-w.invariant.size;
    }

pub turn-returns : goal.turn-returns
turn-returns t c = let l = c.loop-w in record { ran = part_all _ _ _ _ _ _ _ l.invariant.part c.in-None.ensures.steps; exact = l.invariant.exact }

pub turned-loop-w-init : goal.turned-loop-w-init
turned-loop-w-init t c = (turning_none _ _ _ _, c.requires.0.exact, refl)

pub turned-loop-w-preserved : goal.turned-loop-w-preserved
turned-loop-w-preserved t c =
    let w = c.in-Some.ensures in
    let r = c.row_of-row.ensures in
    (turning_more _ _ _ _ _ _ _ c.loop-w.invariant.0 c.in-Some.w w.0 w.1 _ _ _ _ r.ran c.union.ensures refl c.with-looked.ensures.1 c.without-todo.ensures, r.exact, c.row_of-row.auto.rows ∙ c.loop-w.invariant.2)

pub turned-returns : goal.turned-returns
turned-returns t c = record { ran = turning_all _ _ _ _ _ _ _ c.loop-w.invariant.0 c.args.arm.r (match_none _ _ c.lowest.result c.lowest.ensures c.in_default.not-Some); exact = c.loop-w.invariant.1 }
