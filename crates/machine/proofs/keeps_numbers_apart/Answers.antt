use Rattle.machine.proofs.Kept.{numbers_apart}
use Rattle.machine.proofs.keeps_numbers_apart.Goals as goal

pub returns : goal.returns
returns c = numbers_apart
