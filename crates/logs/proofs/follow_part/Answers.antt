use mathlib.Core.Path.{◌≡◌, refl, subst, sym, ap, ◌∙◌}
use Prim.Native.Nat.{◌+◌}
use native.Mathlib.Omega.{arith}
use Rattle.std.specs.Prelude.{Result, Ok, Err}
use Rattle.places.specs.declared.Place.{Place}
use Rattle.logs.specs.declared.Held.{Held}
use Rattle.logs.specs.declared.Refusal.{Refusal}
use Rattle.logs.specs.Logged.{entries_of}
use Rattle.logs.specs.Inner.Following.{Underway, LedOn, staged, held_at}
use Rattle.logs.proofs.Following.{count_is, entry_is}
use Rattle.logs.proofs.Parts.{none_read, still_underway, one_more, all_read, refused_early, no_place, refused_at, on_after, off_after}
use Rattle.logs.proofs.follow_part.Goals as goal

-- where the log goes on, what is held at the start is its place and the rest
start : (h : Held) (p : Place) → h.place ≡ Ok p → h ≡ held_at p h.waiting h.read
start h p is = ap (λ (r : Result Place Refusal). record { place = r; waiting = h.waiting; read = h.read }) is

pub loop-i-init : goal.loop-i-init
loop-i-init c = let v = c.args in none_read v.plan.now v.bodies (entries_of v.part.now) (staged (held_at c.in-Ok.first v.h.waiting v.h.read) v.cells.now v.room.now)

pub returns-in_default : goal.returns-in_default
returns-in_default c =
    let v = c.args in
    let t = staged v.h v.cells.now v.room.now in
    refused_early v.plan.now v.bodies (entries_of v.part.now) t 0 t (none_read v.plan.now v.bodies (entries_of v.part.now) t) (omega arith) (no_place _ c.in_default.not-Ok)

pub number_at-requires : goal.number_at-requires
number_at-requires c = omega (arith, c.loop-i-test.true)

pub follow_next-requires : goal.follow_next-requires
follow_next-requires c =
    let v = c.args in
    let l = c.loop-i in
    let under = subst (λ (k : Held). Underway v.plan.now v.bodies (staged k v.cells.now v.room.now)) (start v.h c.in-Ok.first c.in-Ok.is) c.requires.0 in
    (l.read, still_underway v.plan.now v.bodies (entries_of v.part.now) (staged (held_at c.in-Ok.first v.h.waiting v.h.read) v.cells.now v.room.now) l.i (staged (held_at l.p l.waiting l.read) l.cells l.room) l.invariant under)

pub returns-in-Err : goal.returns-in-Err
returns-in-Err c =
    let v = c.args in
    let l = c.loop-i in
    let inside = c.loop-i-test.true in
    let t = staged (held_at c.in-Ok.first v.h.waiting v.h.read) v.cells.now v.room.now in
    let s = staged (held_at l.p l.waiting l.read) l.cells l.room in
    let under = subst (λ (k : Held). Underway v.plan.now v.bodies (staged k v.cells.now v.room.now)) (start v.h c.in-Ok.first c.in-Ok.is) c.requires.0 in
    let led = one_more v.plan.now v.bodies (entries_of v.part.now) t l.i s l.invariant (omega (arith, count_is v.part.now, inside)) _ (c.from-next.ensures ∙ c.number_at.ensures ∙ entry_is v.part.now l.i inside) _
    (off_after v.plan.now v.bodies s _ _ c.in-Err.is l.waiting l.read c.from-next.result c.follow_next.new.cells c.follow_next.new.room (c.follow_next.ensures l.read (still_underway v.plan.now v.bodies (entries_of v.part.now) t l.i s l.invariant under))) in
    subst (λ (k : Held). LedOn v.plan.now v.bodies (entries_of v.part.now) (staged k v.cells.now v.room.now) (record { place = Err c.in-Err.refusal; waiting = l.waiting; read = l.read; cells = c.follow_next.new.cells; room = c.follow_next.new.room })) (sym (start v.h c.in-Ok.first c.in-Ok.is))
    (refused_early v.plan.now v.bodies (entries_of v.part.now) t (l.i + 1) _ led (omega (arith, count_is v.part.now, inside)) (refused_at _ c.in-Err.refusal refl))

pub loop-i-preserved : goal.loop-i-preserved
loop-i-preserved c =
    let v = c.args in
    let l = c.loop-i in
    let inside = c.loop-i-test.true in
    let t = staged (held_at c.in-Ok.first v.h.waiting v.h.read) v.cells.now v.room.now in
    let s = staged (held_at l.p l.waiting l.read) l.cells l.room in
    let under = subst (λ (k : Held). Underway v.plan.now v.bodies (staged k v.cells.now v.room.now)) (start v.h c.in-Ok.first c.in-Ok.is) c.requires.0 in
    one_more v.plan.now v.bodies (entries_of v.part.now) t l.i s l.invariant (omega (arith, count_is v.part.now, inside)) _ (c.from-next.ensures ∙ c.number_at.ensures ∙ entry_is v.part.now l.i inside) _
    (on_after v.plan.now v.bodies s _ _ c.in-Ok-follow_next.is l.waiting l.read c.from-next.result c.follow_next.new.cells c.follow_next.new.room (c.follow_next.ensures l.read (still_underway v.plan.now v.bodies (entries_of v.part.now) t l.i s l.invariant under)))

pub returns : goal.returns
returns c =
    let v = c.args in
    let l = c.loop-i in
    subst (λ (k : Held). LedOn v.plan.now v.bodies (entries_of v.part.now) (staged k v.cells.now v.room.now) (staged (held_at l.p l.waiting l.read) l.cells l.room)) (sym (start v.h c.in-Ok.first c.in-Ok.is))
    (all_read v.plan.now v.bodies (entries_of v.part.now) (staged (held_at c.in-Ok.first v.h.waiting v.h.read) v.cells.now v.room.now) l.i (staged (held_at l.p l.waiting l.read) l.cells l.room) l.invariant (omega (arith, count_is v.part.now, c.loop-i-test.false)))
