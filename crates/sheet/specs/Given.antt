-- A timing as it is given, and its value.
use Rattle.std.specs.Prelude.{ℕ, max, Bool, not, ◌||◌, nat_lt}
use Rattle.sheet.specs.Units.{picoseconds, cycles, within, rounded_up}
use Rattle.sheet.specs.declared.units.Cycles.{Cycles}
use Rattle.sheet.specs.declared.given.Timing.{Timing}

-- a timing of a count of cycles and no length
abbrev pub counted : Cycles → Timing
counted count = record { length = picoseconds 0; least = count }

-- the length is over 10,000,000 picoseconds, or the least count over 255
abbrev pub over_limit : Timing → Bool
over_limit t = nat_lt 10000000 t.length.0 || nat_lt 255 t.least.0

-- the larger of the least count and the length divided by the period, rounded up
abbrev pub value_at : ℕ → Timing → Cycles
value_at period t = cycles (max t.least.0 (rounded_up t.length.0 period))

-- the value is not 1 to 255 cycles
abbrev pub value_outside : ℕ → Timing → Bool
value_outside period t = not (within 1 255 (value_at period t).0)
