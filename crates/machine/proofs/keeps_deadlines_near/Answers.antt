use Rattle.machine.proofs.Kept.{deadlines_near}
use Rattle.machine.proofs.keeps_deadlines_near.Goals as goal

pub returns : goal.returns
returns c = deadlines_near
