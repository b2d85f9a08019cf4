use Rattle.machine.proofs.Frames.{one_a_frame}
use Rattle.machine.proofs.serves_one_a_frame.Goals as goal

pub returns : goal.returns
returns c = one_a_frame
