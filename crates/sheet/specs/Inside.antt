-- Whether a place is inside a chip.
use Rattle.std.specs.Prelude.{ℕ, Bool, ◌&&◌, nat_lt}

-- bank, row and column, each counted from 0, are below the chip's counts of them
abbrev pub inside : ℕ → ℕ → ℕ → ℕ → ℕ → ℕ → Bool
inside banks rows columns bank row column = nat_lt bank banks && (nat_lt row rows && nat_lt column columns)
