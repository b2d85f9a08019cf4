use Rattle.machine.proofs.Apart.{apart_from_others}
use Rattle.machine.proofs.keeps_requesters_apart.Goals as goal

pub returns : goal.returns
returns c = apart_from_others
