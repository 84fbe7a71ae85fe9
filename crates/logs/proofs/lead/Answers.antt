use mathlib.Core.Path.{sym, ◌∙◌}
use native.Mathlib.Omega.{arith}
use Rattle.places.specs.Inner.Places.{spot}
use Rattle.places.proofs.Places.{chosen_depth, turned_depth}
use Rattle.logs.proofs.Choosing.{led_turn, led_told}
use Rattle.std.proofs.Common.{rules}
use Rattle.logs.proofs.lead.Goals as goal

pub turn-t-requires : goal.turn-t-requires
turn-t-requires c = let a = c.requires in (a.0, a.2, a.4, omega (arith, a.5), omega arith)

pub settle-requires : goal.settle-requires
settle-requires c = let h = turned_depth _ _ _ c.turn-t.ensures c.requires.0 in search (rules, h)

pub returns-then-x-eq-FIXED : goal.returns-then-x-eq-FIXED
returns-then-x-eq-FIXED c = led_turn (spot c.args.p c.args.room.now) c.args.x c.args.next _ _ c.if-x-eq-FIXED.true c.turn-t.ensures c.settle.ensures

pub settle-requires-then-c-eq0 : goal.settle-requires-then-c-eq0
settle-requires-then-c-eq0 c = let h = chosen_depth _ _ _ _ c.choose-q.ensures c.requires.0 in search (rules, h)

pub returns-then-c-eq0 : goal.returns-then-c-eq0
returns-then-c-eq0 c = led_told (spot c.args.p c.args.room.now) c.args.x c.args.next _ _ _ c.if-x-eq-FIXED.false (sym c.if-c-eq0.true ∙ c.choice_told-c.ensures) c.choose-q.ensures c.settle-then-c-eq0.ensures

pub settle-requires-2 : goal.settle-requires-2
settle-requires-2 c = let h = chosen_depth _ _ _ _ c.choose-q-2.ensures c.requires.0 in search (rules, h)

pub returns : goal.returns
returns c = led_told (spot c.args.p c.args.room.now) c.args.x c.args.next _ _ _ c.if-x-eq-FIXED.false c.choice_told-c.ensures c.choose-q-2.ensures c.settle-2.ensures
