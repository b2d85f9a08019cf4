use Rattle.machine.proofs.Kept.{cells_apart}
use Rattle.machine.proofs.keeps_cells_apart.Goals as goal

pub returns : goal.returns
returns c = cells_apart
