-- What a call finds in a room, and what it leaves there.
use Rattle.std.specs.Prelude.{◌≡◌, ℕ, max, Bool, List, length, nat_lt}
use Rattle.policy.specs.Meaning.{own, places_of}
use Rattle.policy.specs.declared.entry.Entry.{Entry}
use Rattle.policy.specs.declared.room.Room.{Room}

-- The entries that wait in a room.
abbrev pub waiting_in : Room → List Entry
waiting_in r = r.waiting.items

-- Whether the requester has a place left.
abbrev pub place_left : Room → ℕ → Bool
place_left r x = nat_lt (length (own x (waiting_in r))) (places_of r.numbers.requesters r.numbers.places x)

-- A call at clock c leaves these entries in the room, and its numbers as they were. The clock is noted, 0 as 1: a room at 0 is one to which no call has come.
pub record Moved (r : Room) (c : ℕ) (es : List Entry) (s : Room) : Type 0 where
  pub same_numbers : s.numbers ≡ r.numbers
  pub noted_clock : s.clock ≡ max 1 c
  pub waits : waiting_in s ≡ es
