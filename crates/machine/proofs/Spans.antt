-- No service takes longer than a span.
use Rattle.std.proofs.Common.{Some, None, Option}
use Rattle.machine.specs.Machine.{Service, Machine}
use Rattle.machine.specs.Spans.{WithinSpan, InSpan}
use Rattle.machine.specs.Opens.{WheneverOpened}
use Rattle.machine.proofs.Stages.{Staged}
use Rattle.machine.proofs.Running.{Running, Begun}
use Rattle.machine.proofs.Serving.{within_span}
use Rattle.machine.proofs.Logged.{logged}

spans_of : (m : Machine) (o : Option Service) → Running m → Begun m.clock o → Staged m o → WithinSpan m.clock m.policy.span o
spans_of m None r b g = tt
spans_of m (Some s) r b g = (b, within_span m s g r.span_fits)

pub in_span : WheneverOpened InSpan
in_span s k last p f log n c =
    let l = logged s k last p f log n c in
    spans_of n n.service l.runs.0 l.runs.1 l.runs.0.stage
