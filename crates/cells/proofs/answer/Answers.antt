use native.Mathlib.Omega.{arith}
use Rattle.format.proofs.Walking.{opened_facts}
use Rattle.summary.proofs.Keeping.{room_none}
use Rattle.lookahead.proofs.Filling.{spare_none}
use Rattle.cells.proofs.answer.Goals as goal

pub answer_with-requires : goal.answer_with-requires
answer_with-requires c = let p = c.requires in (p.0, p.1, p.2, room_none _ 1024 (omega (arith, p.0.counted)), rw p.0.counted (spare_none _ 65 (omega (arith, p.0.counted))))

pub returns-then-plan-le64 : goal.returns-then-plan-le64
returns-then-plan-le64 c = c.answer_with.ensures

pub answer_with-requires-2 : goal.answer_with-requires-2
answer_with-requires-2 c =
    let p = c.requires in
    let n = (opened_facts _ p.0.plain.opens).bounds.records in
    (p.0, p.1, p.2, room_none _ 16384 (omega (arith, n)), rw p.0.counted (spare_none _ 1025 (omega (arith, n))))

pub returns : goal.returns
returns c = c.answer_with-2.ensures
