use Rattle.machine.proofs.Example.{example_stands}
use Rattle.machine.proofs.stands_by_example.Goals as goal

pub returns : goal.returns
returns c = example_stands
