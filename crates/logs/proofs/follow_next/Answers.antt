use mathlib.Core.Path.{refl}
use mathlib.Core.List.{[], ◌∷◌, ◌++◌}
use Prim.Native.Nat.{◌-◌}
use Rattle.logs.specs.Inner.Following.{staged, held_at}
use Rattle.logs.proofs.Parts.{first_read, comes, led_after}
use Rattle.logs.proofs.follow_next.Goals as goal

pub follow_entry-requires : goal.follow_entry-requires
follow_entry-requires c =
    let v = c.args in
    let read = c.requires.0 in
    let w = c.requires.1 in
    (w.entries ++ (v.next ∷ []), read - 1, comes v.plan.now v.bodies (staged (held_at v.p v.waiting read) v.cells.now v.room.now) v.p refl v.next _ c.in-Some.is w.entries [] (w.holds.goes_on refl))

pub returns-in-Some : goal.returns-in-Some
returns-in-Some c = λ read w. let v = c.args in led_after v.plan.now v.bodies v.p v.waiting read v.cells.now v.room.now v.next _ c.in-Some.is _ _ _ c.follow_entry.ensures.followed

pub returns-in-None : goal.returns-in-None
returns-in-None c = λ read w. let v = c.args in first_read v.plan.now v.bodies (staged (held_at v.p v.waiting read) v.cells.now v.room.now) v.p refl v.next c.in-None.is _ refl
