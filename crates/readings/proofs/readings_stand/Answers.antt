use Rattle.readings.proofs.Stand.{all_stand}
use Rattle.readings.proofs.readings_stand.Goals as goal

pub returns : goal.returns
returns c = all_stand
