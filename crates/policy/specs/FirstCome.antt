-- First come: what it keeps between calls that come in order.
use Rattle.std.specs.Prelude.{ℕ, ◌+◌, ◌*◌, ◌%◌, ◌^◌, ◌≤◌, Bool, not, List, length, ◌==◌}
use Rattle.policy.specs.Meaning.{Timely}
use Rattle.policy.specs.Moves.{waiting_in}
use Rattle.policy.specs.declared.entry.Entry.{Entry}
use Rattle.policy.specs.declared.room.Room.{Room}

-- The base lies at the cycle before the clock or later, by less than a span, and each entry's deadline leaves room for those before it.
pub record FirstSound (span c b : ℕ) (es : List Entry) : Type 0 where
  pub started : 1 ≤ c
  pub base_late : c ≤ b + 1
  pub base_soon : b + 1 ≤ c + span
  pub in_time : Timely span b es

-- First come over a room is sound at this clock and base.
abbrev pub FirstSoundIn : Room → ℕ → ℕ → Type 0
FirstSoundIn r c b = FirstSound r.numbers.span c b (waiting_in r)

-- The deadline of an entry that joins at the end: from base b on, a span for each entry before it and one for itself. It is kept in 64 bits.
abbrev pub deadline_at_end : Room → ℕ → ℕ
deadline_at_end r b = (b + r.numbers.span * (length (waiting_in r) + 1)) % 2 ^ 64

-- Whether an entry waits.
abbrev pub some_wait : Room → Bool
some_wait r = not (length (waiting_in r) == 0)
