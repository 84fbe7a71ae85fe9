-- `sizes::record_size` counts the records that stand for a record of body 0.
use native.Mathlib.Omega.{arith}
use mathlib.Core.Path.{sym, ap, ◌∙◌}
use Rattle.sizes.proofs.Body0.{record_one, body0_inside, size_read}
use Rattle.reading.specs.declared.Fields.{Fields}
use Rattle.sizes.proofs.record_size.Goals as goal

pub record_at-x-requires : goal.record_at-x-requires
record_at-x-requires c = let w = body0_inside _ c.requires.0 _ c.requires.1 in (w.place, omega arith)

pub bounds-sizes-x : goal.bounds-sizes-x
bounds-sizes-x c = (size_read _ c.requires.0 _ _ _ c.requires.3 c.record_at-x.ensures c.if-x-eq-CALL.true c.requires.2).0

pub returns-then-x-eq-CALL : goal.returns-then-x-eq-CALL
returns-then-x-eq-CALL c = (size_read _ c.requires.0 _ _ _ c.requires.3 c.record_at-x.ensures c.if-x-eq-CALL.true c.requires.2).1

pub returns-else-x-eq-CALL : goal.returns-else-x-eq-CALL
returns-else-x-eq-CALL c = sym (record_one _ _ (λ z. c.if-x-eq-CALL.false (ap (λ (y : Fields). y.kind) c.record_at-x.ensures ∙ z)))
