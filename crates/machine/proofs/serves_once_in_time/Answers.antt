use Rattle.machine.proofs.Kept.{served_once_in_time}
use Rattle.machine.proofs.serves_once_in_time.Goals as goal

pub returns : goal.returns
returns c = served_once_in_time
