use Rattle.machine.proofs.Kept.{within_the_rules}
use Rattle.machine.proofs.stays_within_the_rules.Goals as goal

pub returns : goal.returns
returns c = within_the_rules
