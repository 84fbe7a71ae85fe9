use Rattle.statuses.proofs.Words.{bit_one}
use Rattle.statuses.proofs.sets.Statuses.only.Goals as goal

pub returns : goal.returns
returns c = bit_one c.args.w c.requires
