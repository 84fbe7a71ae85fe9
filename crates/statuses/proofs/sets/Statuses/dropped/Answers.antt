use Rattle.statuses.proofs.Words.{dropped_less, bit_dropped}
use Rattle.statuses.proofs.sets.Statuses.dropped.Goals as goal

pub returns : goal.returns
returns c =
    let set = c.self.inside.bits in
    let within = rw (← c.self.view_is) at c.requires.1 in
    rw (← c.self.view_is) (dropped_less c.args.w c.requires.0 set within, bit_dropped c.args.w c.requires.0 set within)
