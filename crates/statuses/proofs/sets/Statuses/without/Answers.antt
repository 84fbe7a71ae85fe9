use Rattle.statuses.proofs.Words.{bit_without}
use Rattle.statuses.proofs.sets.Statuses.without.Goals as goal

pub returns : goal.returns
returns c = rw (← c.self.view_is, ← c.other.view_is) (bit_without c.self.inside.bits c.other.inside.bits)
