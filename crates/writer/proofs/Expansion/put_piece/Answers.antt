-- `writer::Expansion::put_piece` writes what stands for a record of body 0.
use mathlib.Core.Path.{ap, ◌∙◌}
use native.Mathlib.Omega.{arith}
use Rattle.passes.proofs.Records.{readable}
use Rattle.sizes.proofs.Body0.{body0_inside}
use Rattle.sizes.proofs.Passes.{pass_stands}
use Rattle.writer.proofs.Pieces.{call_read, nested_arms, nested_room, nested_written}
use Rattle.writer.proofs.Expansion.put_piece.Goals as goal

pub record_at-x-requires : goal.record_at-x-requires
record_at-x-requires c = let w = body0_inside _ c.args.self.now.declared _ (ap (λ o. o.offset) c.args.self.now.finds) in (w.place, omega arith)

pub extent_of-requires : goal.extent_of-requires
extent_of-requires c = let k = call_read _ c.args.self.now.declared _ _ c.requires.0 c.record_at-x.ensures c.if-x-eq-CALL.true in readable _ c.args.self.now.declared.opened _ c.args.self.now.finds _ k.1

pub put_call-requires : goal.put_call-requires
put_call-requires c =
    let k = call_read _ c.args.self.now.declared _ _ c.requires.0 c.record_at-x.ensures c.if-x-eq-CALL.true in
    (pass_stands _ c.args.self.now.declared _ c.args.self.now.finds _ k.0 k.1 _ c.extent_of.ensures, rw (ap (λ e. e.body) c.extent_of.ensures, ← k.2) c.requires.2)

pub returns-then-x-eq-CALL : goal.returns-then-x-eq-CALL
returns-then-x-eq-CALL c =
    let k = call_read _ c.args.self.now.declared _ _ c.requires.0 c.record_at-x.ensures c.if-x-eq-CALL.true in
    c.put_call.ensures ∙ rw (ap (λ e. e.body) c.extent_of.ensures, k.3)

pub put_nested-requires : goal.put_nested-requires
put_nested-requires c =
    let x = c.record_at-x.ensures in
    (nested_arms _ c.args.self.now.declared _ _ _ c.requires.0 x c.if-x-eq-CALL.false c.args.self.now.placed c.requires.1, omega (arith, c.requires.2, nested_room _ c.args.self.now.declared _ _ _ c.requires.0 x c.if-x-eq-CALL.false c.args.self.now.placed))

pub returns-else-x-eq-CALL : goal.returns-else-x-eq-CALL
returns-else-x-eq-CALL c = nested_written _ c.args.self.now.declared _ _ _ c.requires.0 c.record_at-x.ensures c.if-x-eq-CALL.false c.args.self.now.placed _ _ c.put_nested.ensures
