use mathlib.Core.Path.{refl, ap, ◌∙◌}
use mathlib.Core.List.{[]}
use Rattle.places.specs.Inner.Places.{Spot, settled}
use Rattle.standing.specs.Inner.Standing.{Runner, runner, moved_to}
use Rattle.standing.proofs.Machine.after.Goals as goal

pub settle-requires : goal.settle-requires
settle-requires c =
    let pre = c.requires in
    (rw (ap (λ (x : Spot). x.depth) (c.past.ensures [])) pre.1, pre.2)

pub returns-in-Ok : goal.returns-in-Ok
returns-in-Ok c =
    let room = c.args.room.now in
    let m = c.args.self in
    let s = c.in-Ok.s in
    let there = c.settle.ensures ∙ ap settled (c.past.ensures room) in
    rw c.in-Ok.is (ap (λ (r : Runner). record r { host_flags = s.host_flags; card_flags = s.card_flags; known = s.known }) (c.moved.ensures room ∙ ap (λ (p : Spot). moved_to (runner m room) p m.host_flags m.card_flags m.known) there))

pub returns-in-Err : goal.returns-in-Err
returns-in-Err c = rw (c.ended.ensures c.args.room.now, c.in-Err.is) refl
