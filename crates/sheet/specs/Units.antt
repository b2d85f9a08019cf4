-- Picoseconds, cycles and the conversion between them.
use Rattle.std.specs.Prelude.{ℕ, ◌+◌, ◌/◌, ◌%◌, min, Bool, cond, ◌&&◌, Some, None, Option, nat_le}
use Rattle.sheet.specs.declared.units.Picoseconds.{Picoseconds}
use Rattle.sheet.specs.declared.units.Cycles.{Cycles}

-- so many picoseconds
abbrev pub picoseconds : ℕ → Picoseconds
picoseconds n = record { 0 = n }

-- so many cycles
abbrev pub cycles : ℕ → Cycles
cycles n = record { 0 = n }

-- a number lies between two limits, both included
abbrev pub within : ℕ → ℕ → ℕ → Bool
within low high n = nat_le low n && nat_le n high

-- a length divided by a period, rounded up
abbrev pub rounded_up : ℕ → ℕ → ℕ
rounded_up length period = length / period + min 1 (length % period)

-- a length that can be a clock period: 1 to 100,000 picoseconds
abbrev pub period_of : ℕ → Option ℕ
period_of length = cond (within 1 100000 length) (Some length) None
