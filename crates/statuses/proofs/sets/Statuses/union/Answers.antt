use Rattle.statuses.proofs.Words.{bit_or_lem}
use Rattle.statuses.proofs.sets.Statuses.union.Goals as goal

pub returns : goal.returns
returns c = rw (← c.self.view_is, ← c.other.view_is) (record { bits = bit_or_lem _ _ })
