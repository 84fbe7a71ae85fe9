use mathlib.Core.Path.{refl, ap, ◌∙◌}
use mathlib.Core.List.{[]}
use Rattle.places.specs.Inner.Places.{Spot, settled}
use Rattle.logs.specs.Inner.Following.{moved_to}
use Rattle.logs.proofs.after.Goals as goal

pub returns-then-stuck : goal.returns-then-stuck
returns-then-stuck c = rw c.if-stuck.true refl

pub settle-requires : goal.settle-requires
settle-requires c = let pre = c.requires in (rw (ap (λ (x : Spot). x.depth) (c.past.ensures [])) pre.1, pre.2)

pub returns : goal.returns
returns c = rw c.if-stuck.false (ap moved_to (c.settle.ensures ∙ ap settled (c.past.ensures c.args.room.now)))
