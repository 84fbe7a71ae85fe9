use native.Mathlib.Omega.{arith}
use Rattle.statuses.proofs.Words.{lowest_low, lowest_bit}
use Rattle.statuses.proofs.sets.Statuses.lowest.Goals as goal

pub returns : goal.returns
returns c = let set = c.self.inside.bits in rw (← c.self.view_is) (lowest_low set (omega arith) (omega arith), lowest_bit set (omega arith) (omega arith))
