use Rattle.machine.proofs.Promised.{keeps_its_promises}
use Rattle.machine.proofs.keeps_its_promises.Goals as goal

pub returns : goal.returns
returns c = keeps_its_promises
