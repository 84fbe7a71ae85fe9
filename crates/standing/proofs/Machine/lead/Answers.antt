use native.Mathlib.Omega.{arith}
use Rattle.standing.proofs.Machine.lead.Goals as goal

pub begin_turn-requires : goal.begin_turn-requires
begin_turn-requires c =
    let a = c.requires in
    (a.0, a.3, a.4, omega (arith, a.5), omega arith)
