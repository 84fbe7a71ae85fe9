use Rattle.statuses.proofs.Words.{with_more, bit_with}
use Rattle.statuses.proofs.sets.Statuses.with.Goals as goal

pub returns : goal.returns
returns c =
    let set = c.self.inside.bits in
    let out = rw (← c.self.view_is) at c.requires.1 in
    rw (← c.self.view_is) (with_more c.args.w c.requires.0 set out, bit_with c.args.w c.requires.0 set)
