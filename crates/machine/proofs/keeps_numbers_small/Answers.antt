use Rattle.machine.proofs.Counted.{numbers_small}
use Rattle.machine.proofs.keeps_numbers_small.Goals as goal

pub returns : goal.returns
returns c = numbers_small
