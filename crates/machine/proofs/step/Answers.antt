-- `step` is one step of the definition of a run, it lowers the measure, and it leaves the cells past the plan's.
use Rattle.std.proofs.Common.{◌≡◌, ℕ, ◌+◌, ◌≤◌, ◌<◌, List, get_or, arith}
use Rattle.std.specs.Prelude.{None}
use Rattle.model.specs.Sides.{cell_count}
use Rattle.model.specs.declared.Tally.{Tally}
use Rattle.model.specs.Runs.{Config}
use Rattle.reading.specs.declared.Fields.{Fields}
use Rattle.reading.specs.Bytes.{array_count, layout_of, fields_at}
use Rattle.reading.specs.Inner.Cells.{from_of, to_of}
use Rattle.format.proofs.Walking.{opened_facts}
use Rattle.format.proofs.Acts.{record_inside}
use Rattle.memories.proofs.Cells.{same_all, same_more}
use Rattle.standing.specs.Inner.Standing.{Runner, stored_with, Stands}
use Rattle.machine.proofs.Records.{on_array}
use Rattle.machine.proofs.Ways.{fits_inside, record_fits, kind_is, not_deep, turns_left, Able}
use Rattle.machine.proofs.Steps.{at_end, at_lead, able, at_record, ensured}
use Rattle.machine.proofs.step.Goals as goal

module _ {f choices : List ℕ} {m : Runner} {own others latest : List ℕ} {t : Tally} {k : Config} (w : Stands f choices m own others latest t k) (h : m.place.at < m.place.end) (x : Fields) (e : x ≡ fields_at f m.place.at) (y : x.kind < 6) where
  -- a record of kind 1 to 5 is of an array of the plan
  array_there : x.array < array_count f
  array_there =
      let low = (kind_is f m.bodies w.plain _ _ _ w.placed.here h x e).0 in
      (on_array f m.bodies w.plain x (record_fits f m.bodies w.plain _ _ _ w.placed.here h x e) (low, omega arith)).1

  -- which has its entry in the room, and so has the next one
  in_room : x.array + 1 < 81
  in_room = omega (arith, array_there, (opened_facts f w.plain.opens).bounds.header.arrays)

  abbrev first : ℕ
  first = get_or m.place.room x.array 0

  abbrev next : ℕ
  next = get_or m.place.room (x.array + 1) 0

  able_there : m.verdict ≡ None → Able (layout_of f) x first next (from_of x first) (to_of x first next) (stored_with m t) m.place.at own others latest
  able_there run =
      let there = array_there in
      able f choices m own others latest t run k w h x e (omega arith) first next (w.starts.first _ (omega arith)) (w.starts.first _ (omega arith))

pub returns-then-p : goal.returns-then-p
returns-then-p c =
    ensured _ _ _ _ _ _ _ _ _ _ _ _ _ c.requires.1 (λ k w. rw c.over.ensures.1 (at_end _ _ _ _ _ _ _ c.requires.0 k w c.if-p.true _ (c.over.ensures.0 c.args.room.now))) (same_all _ _) (same_all _ _) (same_all _ _)

pub record_at-x-requires : goal.record_at-x-requires
record_at-x-requires c =
    let w = c.requires.1.stands in
    let h : c.args.m.place.at < c.args.m.place.end = omega (arith, w.placed.here.order) in
    (w.plain.place, record_inside _ _ w.plain _ (omega (arith, h, w.placed.here.inside)))

pub lead-requires : goal.lead-requires
lead-requires c =
    let w = c.requires.1.stands in
    let x = c.record_at-x in
    let part = w.placed.here in
    let h : c.args.m.place.at < c.args.m.place.end = omega (arith, part.order) in
    let n = fits_inside _ _ w.plain _ _ _ part h _ x.ensures in
    let few = (opened_facts _ w.plain.opens).bounds.records in
    (not_deep _ _ w.plain _ _ _ part h _ x.ensures c.if-x-ge-BRANCH.true, w.used, w.many, w.placed.size, omega (arith, part.inside, few), omega (arith, n, part.inside, few), turns_left _ _ w.plain _ _ _ part h _ x.ensures c.args.room.now w.placed.begun)

pub returns-then-x-ge-BRANCH : goal.returns-then-x-ge-BRANCH
returns-then-x-ge-BRANCH c =
    let h : c.args.m.place.at < c.args.m.place.end = omega (arith, c.requires.1.stands.placed.here.order) in
    ensured _ _ _ _ _ _ _ _ _ _ _ _ _ c.requires.1 (λ k w. at_lead _ _ _ _ _ _ _ c.requires.0 k w h _ c.record_at-x.ensures c.if-x-ge-BRANCH.true _ c.lead.ensures) (same_all _ _) (same_all _ _) (same_all _ _)

pub bounds-room-a : goal.bounds-room-a
bounds-room-a c =
    let w = c.requires.1.stands in
    let h : c.args.m.place.at < c.args.m.place.end = omega (arith, w.placed.here.order) in
    omega (arith, in_room w h _ c.record_at-x.ensures (omega arith), w.placed.size)

pub bounds-room-a-2 : goal.bounds-room-a-2
bounds-room-a-2 c =
    let w = c.requires.1.stands in
    let h : c.args.m.place.at < c.args.m.place.end = omega (arith, w.placed.here.order) in
    omega (arith, in_room w h _ c.record_at-x.ensures (omega arith), w.placed.size)

pub act-r-requires : goal.act-r-requires
act-r-requires c =
    let w = c.requires.1.stands in
    let h : c.args.m.place.at < c.args.m.place.end = omega (arith, w.placed.here.order) in
    let r = able_there w h c.record_at-x.result c.record_at-x.ensures (omega arith) c.requires.0 in
    let fc = c.first_cell-from.ensures in
    let nc = c.next_cell-to.ensures in
    let s = c.acted_on.ensures c.args.room.now in
    (rw s r.low, rw (s, fc, nc) r.sure, r.kind.0, r.kind.1, r.array, rw (fc, nc) (r.rooms (omega arith)))

pub after-requires : goal.after-requires
after-requires c =
    let w = c.requires.1.stands in
    let h : c.args.m.place.at < c.args.m.place.end = omega (arith, w.placed.here.order) in
    let r = able_there w h c.record_at-x.result c.record_at-x.ensures (omega arith) c.requires.0 in
    (r.few, w.placed.shallow, w.placed.size)

pub returns : goal.returns
returns c =
    let u = c.requires.1.stands in
    let h : c.args.m.place.at < c.args.m.place.end = omega (arith, u.placed.here.order) in
    let x = c.record_at-x in
    let there = array_there u h x.result x.ensures (omega arith) in
    let r = able_there u h x.result x.ensures (omega arith) c.requires.0 in
    let fc = c.first_cell-from.ensures in
    let nc = c.next_cell-to.ensures in
    let v = c.act-r in
    let acts = v.ensures.follows (layout_of c.args.plan.now) (rw (fc, nc) r.spans) (λ z. rw (fc, nc) (r.whole (rw (c.is_whole-whole.ensures, fc, nc) at z))) in
    let held = rw (c.acted_on.ensures c.args.room.now) at acts in
    let i : c.next_cell-to.result ≤ cell_count (layout_of c.args.plan.now) = rw nc r.inside in
    ensured _ _ _ _ _ _ _ _ _ _ _ _ _ c.requires.1
    (λ k w. rw (c.after.ensures, c.tally_after.ensures) (at_record _ _ _ _ _ _ _ c.requires.0 k w h _ x.ensures r.kind.1 _ _ (u.starts.first _ (omega arith)) (u.starts.first _ (omega arith)) v.result _ _ _ held))
    (same_more i v.ensures.host) (same_more i v.ensures.card) (same_more i v.ensures.latest)
