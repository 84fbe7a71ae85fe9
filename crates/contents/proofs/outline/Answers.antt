use mathlib.Core.Path.{◌≡◌, refl, ap, ◌∙◌}
use mathlib.Core.List.{List}
use Prim.Native.Nat.{ℕ, ◌≤◌}
use lib.ListN.{length}
use Rattle.reading.specs.Bytes.{body_count, entry_at, bodies_at}
use Rattle.model.proofs.Verdicts.{faulty, handed, faulty_where, where_accepts, where_faulty, found_where}
use Rattle.contents.proofs.Places.{front_header, front_short, front_arrays, front_bodies, front_tail, all}
use Rattle.contents.proofs.Bounds.{header_bounds}
use Rattle.contents.proofs.outline.Goals as goal

-- where the bodies stand, by the number of bodies that the header gives
module _ (f : List ℕ) (offset bodies : ℕ) (p : offset ≡ entry_at f bodies) (e : bodies ≡ body_count f) where
  placed : offset ≡ bodies_at f
  placed = p ∙ ap (entry_at f) e

  within : offset ≤ length f → bodies_at f ≤ length f
  within l = rw placed at l

pub returns-in_err-header : goal.returns-in_err-header
returns-in_err-header c = handed c.from_residual.ensures.1 ∙ faulty_where _ _ _ (front_header _ _ (faulty refl) c.in_err-header.ensures)

pub returns-then-plan-offset : goal.returns-then-plan-offset
returns-then-plan-offset c =
    let offset-is = placed c.args.plan.now _ _ c.entry_at-offset.ensures.place (c.from.ensures ∙ c.byte-bodies.ensures) in
    faulty_where _ _ _ (front_short _ c.in_ok-header.ensures (rw offset-is at c.if-plan-offset.true))

pub array_entries-requires : goal.array_entries-requires
array_entries-requires c = ((header_bounds _ c.in_ok-header.ensures).arrays.1, within _ _ _ c.entry_at-offset.ensures.place (c.from.ensures ∙ c.byte-bodies.ensures) c.if-plan-offset.false)

pub returns-in_err-cells : goal.returns-in_err-cells
returns-in_err-cells c =
    let w = within _ _ _ c.entry_at-offset.ensures.place (c.from.ensures ∙ c.byte-bodies.ensures) c.if-plan-offset.false in
    handed c.from_residual-in_err-cells.ensures.1 ∙ faulty_where _ _ _ (front_arrays _ c.in_ok-header.ensures w _ (faulty refl) (where_faulty _ _ _ c.in_err-cells.ensures))

pub body_entries-requires : goal.body_entries-requires
body_entries-requires c = ((header_bounds _ c.in_ok-header.ensures).bodies.1, within _ _ _ c.entry_at-offset.ensures.place (c.from.ensures ∙ c.byte-bodies.ensures) c.if-plan-offset.false)

pub returns-in_err-records : goal.returns-in_err-records
returns-in_err-records c =
    let w = within _ _ _ c.entry_at-offset.ensures.place (c.from.ensures ∙ c.byte-bodies.ensures) c.if-plan-offset.false in
    let a = where_accepts _ _ _ c.in_ok-cells.ensures in
    handed c.from_residual-in_err-records.ensures.1 ∙ faulty_where _ _ _ (front_bodies _ c.in_ok-header.ensures w a.0 _ (faulty refl) (where_faulty _ _ _ c.in_err-records.ensures.bodies))

pub returns-in_err-tail : goal.returns-in_err-tail
returns-in_err-tail c =
    let w = within _ _ _ c.entry_at-offset.ensures.place (c.from.ensures ∙ c.byte-bodies.ensures) c.if-plan-offset.false in
    let a = where_accepts _ _ _ c.in_ok-cells.ensures in
    let b = where_accepts _ _ _ c.in_ok-records.ensures.bodies in
    handed c.from_residual-in_err-tail.ensures.1 ∙ faulty_where _ _ _ (front_tail _ c.in_ok-header.ensures w a.0 b.0 _ c.in_err-tail.ensures)

pub returns : goal.returns
returns c =
    let place = placed _ _ _ c.entry_at-offset.ensures.place (c.from.ensures ∙ c.byte-bodies.ensures) in
    let w = within _ _ _ c.entry_at-offset.ensures.place (c.from.ensures ∙ c.byte-bodies.ensures) c.if-plan-offset.false in
    let a = where_accepts _ _ _ c.in_ok-cells.ensures in
    let b = where_accepts _ _ _ c.in_ok-records.ensures.bodies in
    found_where _ _ _ (front_tail _ c.in_ok-header.ensures w a.0 b.0 _ c.in_ok-tail.ensures) (
    all _ _ _ _ _ _ _ _ _ _ c.byte.ensures c.byte-2.ensures c.byte-bodies.ensures
    (ap (λ x. x.cells) a.1) (ap (λ x. x.records) b.1) place (ap (λ x. x.starts) a.1) (ap (λ x. x.starts) b.1) (ap (λ x. x.declarations) b.1)
    )
