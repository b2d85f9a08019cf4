-- Turn order: what it keeps between calls that come in order.
use Rattle.std.specs.Prelude.{◌≡◌, ℕ, ◌+◌, ◌-◌, ◌*◌, ◌<◌, ◌≤◌, Bool, false, List, [], ◌∷◌, length, Some, None, Option, ◌==◌}
use Rattle.policy.specs.Meaning.{own, own_slot, first_own_slot, slot_end}
use Rattle.policy.specs.Moves.{waiting_in}
use Rattle.policy.specs.declared.entry.Entry.{Entry}
use Rattle.policy.specs.declared.room.Room.{Room}

-- Deadlines lie at least a span apart, from this cycle on.
abbrev pub Apart : ℕ → ℕ → List Entry → Type 0
Apart span low [] = Unit {0}
Apart span low (e ∷ es) = (low + span ≤ e.deadline) × Apart span e.deadline es

-- Deadlines are the ends of slot f and of each nth slot after it.
abbrev pub Consecutive : ℕ → ℕ → ℕ → List Entry → Type 0
Consecutive span n f [] = Unit {0}
Consecutive span n f (e ∷ es) = (e.deadline ≡ slot_end span f) × Consecutive span n (f + n) es

-- One slot is the next to start at clock c, and the base lies before it. Deadlines are slots apart from there on, and each requester's entries have its own slots, one after another.
pub record TurnSound (span n c b : ℕ) (es : List Entry) : Type 0 where
  pub next : ℕ
  pub started : 1 ≤ c
  pub next_late : c ≤ next * span + 1
  pub next_soon : next * span + 1 < c + span
  pub base_before : b ≤ next * span
  pub apart : Apart span (next * span) es
  pub owned : (r : ℕ) → r < n → Consecutive span n (own_slot n r next) (own r es)

-- Turn order over a room is sound at this clock and base.
abbrev pub TurnSoundIn : Room → ℕ → ℕ → Type 0
TurnSoundIn r c b = TurnSound r.numbers.span r.numbers.requesters c b (waiting_in r)

-- An entry's slot starts at clock c.
abbrev pub starts_now : ℕ → ℕ → Option Entry → Bool
starts_now span c None = false
starts_now span c (Some e) = e.deadline == c + span - 1

-- The deadline of the next entry of requester x where it joins at clock c: the end of the slot that follows those of its entries that wait, from its first slot that has not begun.
abbrev pub deadline_by_slot : Room → ℕ → ℕ → ℕ
deadline_by_slot r c x =
    slot_end r.numbers.span (first_own_slot r.numbers.span r.numbers.requesters x c + length (own x (waiting_in r)) * r.numbers.requesters)
