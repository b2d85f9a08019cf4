-- How long a service takes, of every machine that a chain reaches.
use Rattle.std.specs.Prelude.{ℕ, ◌+◌, ◌<◌, List, Some, None, Option}
use Rattle.machine.specs.Machine.{Service, Machine, Exchange, Chain}

-- A service began before the clock, and less than a span has passed since its start.
abbrev pub WithinSpan : ℕ → ℕ → Option Service → Type 0
WithinSpan clock span None = Unit {0}
WithinSpan clock span (Some s) = (s.start < clock) × (clock < s.start + span)

-- No service takes longer than a span.
abbrev pub InSpan : Machine → Type 0
InSpan m = (log : List Exchange) (n : Machine) → Chain m log n → WithinSpan n.clock n.policy.span n.service
