use Rattle.machine.proofs.Kept.{accounted_for}
use Rattle.machine.proofs.accounts_for_commands.Goals as goal

pub returns : goal.returns
returns c = accounted_for
