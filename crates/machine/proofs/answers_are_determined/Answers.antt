use Rattle.machine.proofs.Determined.{answers_determined}
use Rattle.machine.proofs.answers_are_determined.Goals as goal

pub returns : goal.returns
returns c = answers_determined
