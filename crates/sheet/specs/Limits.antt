-- What an accepted sheet keeps of each timing.
use Rattle.std.specs.Prelude.{ℕ, ◌≤◌}

-- a value that a timing can have: 1 to 255 cycles
abbrev pub InRange : ℕ → Type 0
InRange n = (1 ≤ n) × (n ≤ 255)
