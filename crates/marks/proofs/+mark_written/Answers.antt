use native.Mathlib.Omega.{arith}
use Rattle.marks.proofs.Marks.{length_none, none_marked}
use Rattle.marks.proofs.Walks.{RecordAt, arms_of, write_fits, adds_none, adds_branch, adds_fixed, adds_other}
use Prim.Native.Nat.{ℕ, ◌<◌}
use mathlib.Core.Path.{◌≡◌}
use mathlib.Core.List.{List}
use Rattle.reading.specs.declared.Fields.{Fields}
use Rattle.reading.specs.Bytes.{fields_at, first_arm, second_arm}
use Rattle.format.specs.Inner.Walks.{Walkable}
use Rattle.marks.proofs.+mark_written.Goals as goal

-- a record that was read at its place in the walk
read_at : {f : List ℕ} {r end : ℕ} {x : Fields} {i j : ℕ} → r < end → Walkable f r end → x ≡ fields_at f r → i ≡ first_arm x → j ≡ second_arm x → RecordAt f r end x i j
read_at h g e one two = record { less = h; walk = g; fields = e; one = one; two = two }

pub mark_written-requires : goal.mark_written-requires
mark_written-requires t c =
    let a = arms_of _ _ _ _ _ _ (read_at c.loop-at-test.true c.loop-at.invariant.3 c.record_at-x.ensures c.first_arm.ensures.arm c.second_arm.ensures.arm) in let p = c.requires.4 in (omega arith, (length_none, c.requires.1, omega arith, omega arith, record { place = p.place; room = omega arith }, a.one))

pub mark_written-requires-then-x-eq-BRANCH : goal.mark_written-requires-then-x-eq-BRANCH
mark_written-requires-then-x-eq-BRANCH t c =
    let a = arms_of _ _ _ _ _ _ (read_at c.loop-at-test.true c.loop-at.invariant.3 c.record_at-x.ensures c.first_arm.ensures.arm c.second_arm.ensures.arm) in let p = c.requires.4 in (omega arith, (length_none, c.requires.1, omega arith, omega arith, record { place = p.place; room = omega arith }, a.two))

pub mark_written-requires-then-x-eq-FIXED : goal.mark_written-requires-then-x-eq-FIXED
mark_written-requires-then-x-eq-FIXED t c =
    let a = arms_of _ _ _ _ _ _ (read_at c.loop-at-test.true c.loop-at.invariant.3 c.record_at-x.ensures c.first_arm.ensures.arm c.second_arm.ensures.arm) in let p = c.requires.4 in (omega arith, (c.loop-at.invariant.2, c.requires.1, omega arith, omega arith, record { place = p.place; room = omega arith }, a.one))

pub mark_record-requires : goal.mark_record-requires
mark_record-requires t c =
    (c.loop-at.invariant.2, write_fits _ _ _ c.requires.1 _ _ _ _ _ (read_at c.loop-at-test.true c.loop-at.invariant.3 c.record_at-x.ensures c.first_arm.ensures.arm c.second_arm.ensures.arm))

pub loop-at-preserved-then-x-eq-BRANCH : goal.loop-at-preserved-then-x-eq-BRANCH
loop-at-preserved-then-x-eq-BRANCH t c =
    let here = read_at c.loop-at-test.true c.loop-at.invariant.3 c.record_at-x.ensures c.first_arm.ensures.arm c.second_arm.ensures.arm in
    let a = arms_of _ _ _ _ _ _ here in
    (omega arith, a.inside, c.mark_both.ensures.size, a.rest, (λ l k. c.loop-at.invariant.4 l (adds_branch _ _ _ c.requires.1 _ _ _ _ _ here _ _ l k c.if-x-eq-BRANCH.true _ _ _ none_marked c.mark_written.ensures c.mark_written-then-x-eq-BRANCH.ensures c.mark_both.ensures)))

pub loop-at-preserved-then-x-eq-FIXED : goal.loop-at-preserved-then-x-eq-FIXED
loop-at-preserved-then-x-eq-FIXED t c =
    let here = read_at c.loop-at-test.true c.loop-at.invariant.3 c.record_at-x.ensures c.first_arm.ensures.arm c.second_arm.ensures.arm in
    let a = arms_of _ _ _ _ _ _ here in
    (omega arith, a.inside, c.mark_written-then-x-eq-FIXED.ensures.size, a.rest, (λ l k. c.loop-at.invariant.4 l (adds_fixed _ _ _ c.requires.1 _ _ _ _ _ here _ _ l k c.if-x-eq-FIXED.true c.mark_written-then-x-eq-FIXED.ensures)))

pub loop-at-preserved : goal.loop-at-preserved
loop-at-preserved t c =
    let here = read_at c.loop-at-test.true c.loop-at.invariant.3 c.record_at-x.ensures c.first_arm.ensures.arm c.second_arm.ensures.arm in
    let a = arms_of _ _ _ _ _ _ here in
    (omega arith, a.inside, c.mark_record.ensures.size, a.rest, (λ l k. c.loop-at.invariant.4 l (adds_other _ _ _ c.requires.1 _ _ _ _ _ here _ _ l k c.if-x-eq-BRANCH.false c.if-x-eq-FIXED.false c.mark_record.ensures)))

pub returns : goal.returns
returns t c = c.loop-at.invariant.4 _ (adds_none _ _ _ c.requires.1 _ _ c.loop-at-test.false _ c.loop-at.invariant.2)
