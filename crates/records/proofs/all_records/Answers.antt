use mathlib.Core.Path.{◌≡◌, ap, refl, ◌∙◌}
use mathlib.Core.List.{List}
use lib.ListN.{get_or}
use Prim.Native.Nat.{ℕ, ◌+◌, ◌<◌}
use Rattle.model.specs.Verdicts.{Verdict, Accepted}
use Rattle.model.specs.Rows.{answer_of}
use Rattle.contents.specs.Contents.{front_rows}
use Rattle.contents.specs.Found.{found}
use Rattle.contents.specs.declared.Opened.{Opened}
use Rattle.records.specs.Records.{body_rows}
use native.Mathlib.Omega.{arith}
use Rattle.reading.specs.Bytes.{body_count}
use Rattle.model.proofs.Rows.{each_none, each_more, each_stop}
use Rattle.model.proofs.Verdicts.{faulty, handed}
use Rattle.contents.proofs.Bounds.{bounds_of}
use Rattle.contents.proofs.Found.{BodyAt, body_at}
use Rattle.records.proofs.Records.{Answers, body_records}
use Rattle.records.proofs.all_records.Goals as goal

-- body b of those found
module _ (f : List ℕ) (o : Opened) (b : ℕ) (w : (Accepted ≡ answer_of (front_rows f)) × (o ≡ found f)) (h : b < o.bodies) where
  below : b < body_count f
  below = rw (ap (λ x. x.bodies) w.1) at h

  stands : BodyAt f o b
  stands = body_at f o w.1 (bounds_of f w.0) b below

  answers : {from end : ℕ} → from ≡ get_or o.body_starts b 0 → end ≡ get_or o.body_starts (b + 1) 0 → (v : Verdict) → Answers f b 0 1 from end v → v ≡ answer_of (body_rows f b)
  answers p q v a = body_records f o b below stands v (rw (p, q) at a)

pub loop-b-init : goal.loop-b-init
loop-b-init c = each_none _

pub bounds-starts-b : goal.bounds-starts-b
bounds-starts-b c = let x = stands _ _ _ c.requires (rw c.from-b-end.ensures at c.loop-b-test.true) in omega (arith, x.few)

pub bounds-starts-b-in-loop-b : goal.bounds-starts-b-in-loop-b
bounds-starts-b-in-loop-b c = let x = stands _ _ _ c.requires (rw c.from-b-end.ensures at c.loop-b-test.true) in omega (arith, x.few)

pub bounds-declarations-b : goal.bounds-declarations-b
bounds-declarations-b c = let x = stands _ _ _ c.requires (rw c.from-b-end.ensures at c.loop-b-test.true) in x.few

pub block-requires : goal.block-requires
block-requires c =
    let x = stands _ _ _ c.requires (rw c.from-b-end.ensures at c.loop-b-test.true) in
    let from = c.from-from.ensures ∙ x.from_is in
    let end = c.from-end.ensures ∙ x.end_is in
    (omega arith, omega (arith, from, end), omega (arith, end, x.within, x.low), omega arith, record { place = c.from-offset.ensures ∙ x.inside.place; room = omega (arith, c.from-offset.ensures, x.inside.room, end, x.within) }, rw (from, c.from.ensures, x.declarations_are))

pub returns-in_err-block : goal.returns-in_err-block
returns-in_err-block c =
    let h = rw c.from-b-end.ensures at c.loop-b-test.true in
    handed c.from_residual.ensures.1 ∙ each_stop _ _ _ _ (faulty refl) c.loop-b.invariant (answers _ _ _ c.requires h c.from-from.ensures c.from-end.ensures _ c.in_err-block.ensures) (below _ _ _ c.requires h)

pub loop-b-preserved : goal.loop-b-preserved
loop-b-preserved c =
    let h = rw c.from-b-end.ensures at c.loop-b-test.true in
    each_more _ _ c.loop-b.invariant (answers _ _ _ c.requires h c.from-from.ensures c.from-end.ensures _ c.in_ok-block.ensures)
