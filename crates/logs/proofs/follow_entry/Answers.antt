use mathlib.Core.Path.{◌≡◌, sym, ap, ◌∙◌}
use Prim.Native.Nat.{ℕ, ◌≤◌, ◌<◌}
use native.Mathlib.Omega.{arith}
use Rattle.reading.specs.Bytes.{layout_of}
use Rattle.format.proofs.Walking.{opened_facts}
use Rattle.format.proofs.Acts.{record_inside}
use Rattle.places.specs.Inner.Places.{Spot, spot}
use Rattle.logs.specs.Inner.Following.{moved_to, led_by}
use Rattle.logs.proofs.Following.{ready_to_lead, there_array, there_low, covered, ready_to_track, followed_30, followed_led, followed_act}
use Rattle.logs.proofs.follow_entry.Goals.{then-p-via-then-p, then-p-via-else-p+then-p-this}
use Rattle.logs.proofs.follow_entry.Goals as goal

-- the place is before the end of its arm
there : {at end : ℕ} → (at ≡ end → ⊥) → at ≤ end → at < end
there n h = omega (arith, n, h)

-- the place is at the end of its arm, or its record is another than the entry's
off : (c : goal.Joined-then-p) → c.args.p.at ≡ c.args.this → c.args.p.at < c.args.p.end → ⊥
off c e h = elim c.then-p.branch [ then-p-via-then-p w ↦ omega (arith, w.if-p.true, h) | then-p-via-else-p+then-p-this w ↦ w.if-p-this.true e ]

pub returns-then-p : goal.returns-then-p
returns-then-p c = record { followed = λ l i w. let v = c.args in followed_30 v.plan.now l v.bodies (moved_to (spot v.p v.room.now)) v.cells.now i w.stands w.inside (λ e h. off c (e ∙ sym w.this_is) h) }

pub record_at-x-requires : goal.record_at-x-requires
record_at-x-requires c =
    let before-end = there c.if-p.false c.requires.2.stands.placed.here.order in
    let w = c.requires.2.stands in (w.plain.place, record_inside _ _ w.plain _ (omega (arith, before-end, w.placed.here.inside)))

pub lead-requires : goal.lead-requires
lead-requires c =
    let before-end = there c.if-p.false c.requires.2.stands.placed.here.order in
    let w = c.requires.2.stands in ready_to_lead _ _ w.plain (spot c.args.p c.args.room.now) w.placed before-end _ c.record_at-x.ensures c.if-x-ge-BRANCH.true _ (c.unused.ensures c.args.room.now)

pub returns-then-x-ge-BRANCH : goal.returns-then-x-ge-BRANCH
returns-then-x-ge-BRANCH c =
    let before-end = there c.if-p.false c.requires.2.stands.placed.here.order in
    let same-entry = c.if-p-this.false in
    record {
      followed = λ l i w.
          let v = c.args in
          let x = c.record_at-x in
          followed_led v.plan.now l v.bodies (moved_to (spot v.p v.room.now)) v.cells.now i w.stands w.inside before-end (same-entry ∙ w.this_is) _ x.ensures c.if-x-ge-BRANCH.true
          v.next w.next_is _ (c.lead.ensures ∙ ap (λ (p : Spot). led_by p x.result v.next) (c.unused.ensures v.room.now));
    }

pub bounds-room-a : goal.bounds-room-a
bounds-room-a c =
    let before-end = there c.if-p.false c.requires.2.stands.placed.here.order in
    let w = c.requires.2.stands in
    let arrays = (there_array _ _ w.plain (spot c.args.p c.args.room.now) w.placed before-end _ c.record_at-x.ensures (omega (arith, c.if-x-ge-BRANCH.false))).1 in
    omega (arith, arrays, (opened_facts _ w.plain.opens).bounds.header.arrays, w.placed.size)

pub bounds-room-a-2 : goal.bounds-room-a-2
bounds-room-a-2 c =
    let before-end = there c.if-p.false c.requires.2.stands.placed.here.order in
    let w = c.requires.2.stands in
    let arrays = (there_array _ _ w.plain (spot c.args.p c.args.room.now) w.placed before-end _ c.record_at-x.ensures (omega (arith, c.if-x-ge-BRANCH.false))).1 in
    omega (arith, arrays, (opened_facts _ w.plain.opens).bounds.header.arrays, w.placed.size)

pub track-stuck-requires : goal.track-stuck-requires
track-stuck-requires c =
    let before-end = there c.if-p.false c.requires.2.stands.placed.here.order in
    let w = c.requires.2.stands in ready_to_track _ _ w.plain (spot c.args.p c.args.room.now) w.placed before-end _ c.record_at-x.ensures (omega (arith, c.if-x-ge-BRANCH.false)) c.args.room.now w.starts w.statuses

pub after-requires : goal.after-requires
after-requires c =
    let before-end = there c.if-p.false c.requires.2.stands.placed.here.order in
    let w = c.requires.2.stands in (there_low _ _ w.plain (spot c.args.p c.args.room.now) w.placed before-end _ c.record_at-x.ensures (omega (arith, c.if-x-ge-BRANCH.false)), w.placed.shallow, w.placed.size)

pub returns : goal.returns
returns c =
    let before-end = there c.if-p.false c.requires.2.stands.placed.here.order in
    let same-entry = c.if-p-this.false in
    record {
      followed = λ l i w.
          let v = c.args in
          let s = w.stands in
          let x = c.record_at-x in
          let t = c.track-stuck in
          let low : x.result.kind ≤ 5 = omega (arith, c.if-x-ge-BRANCH.false) in
          let cells = covered _ _ s.plain (spot c.args.p c.args.room.now) s.placed before-end _ x.ensures low v.room.now s.starts in
          followed_act v.plan.now l v.bodies (moved_to (spot v.p v.room.now)) v.cells.now i s w.inside before-end (same-entry ∙ w.this_is) _ x.ensures low
          t.result _ (t.ensures (layout_of v.plan.now) _ cells s.past s.statuses) _ c.after.ensures;
    }
