use Rattle.machine.proofs.Answering.{always_answers}
use Rattle.machine.proofs.answers_every_tick.Goals as goal

pub returns : goal.returns
returns c = always_answers
