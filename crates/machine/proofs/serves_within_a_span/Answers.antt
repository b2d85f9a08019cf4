use Rattle.machine.proofs.Spans.{in_span}
use Rattle.machine.proofs.serves_within_a_span.Goals as goal

pub returns : goal.returns
returns c = in_span
