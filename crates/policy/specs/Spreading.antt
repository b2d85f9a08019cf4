-- Spreading: each row numbers the banks from another one on.
use Rattle.std.specs.Prelude.{ℕ, ◌+◌, ◌%◌}
use Rattle.policy.specs.Meaning.{Meaning}

-- The bank under which bank b of row r is passed down.
abbrev pub spread_bank : ℕ → ℕ → ℕ → ℕ
spread_bank banks b r = (b + r) % banks

-- A policy under spreading: its name for a bank and row is what the policy below calls the bank that is passed down; all else is as below.
abbrev pub spread : Meaning → Meaning
spread m = record { requesters = m.requesters; places = m.places; span = m.span; banks = m.banks; reach = m.reach; holds = m.holds; bank_name = λ b r. m.bank_name (spread_bank m.banks b r) r; order = m.order; clock = m.clock; waiting = m.waiting }
