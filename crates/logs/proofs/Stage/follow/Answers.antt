use Rattle.logs.proofs.Parts.{led_there}
use Rattle.logs.proofs.Stage.follow.Goals as goal

pub returns-clause-underway : goal.returns-clause-underway
returns-clause-underway c = let v = c.args in led_there v.plan.now v.bodies v.part.now v.self.now _ c.follow_part-n.ensures c.requires.0
