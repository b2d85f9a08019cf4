-- An entry with another deadline.
use Rattle.std.specs.Prelude.{ℕ}
use Rattle.policy.specs.declared.entry.Entry.{Entry}

-- The entry, due by cycle d.
abbrev pub due_by : Entry → ℕ → Entry
due_by e d = record { requester = e.requester; number = e.number; kind = e.kind; bank = e.bank; row = e.row; column = e.column; deadline = d }
