-- What an order of service over a room means.
use Rattle.std.specs.Prelude.{ℕ, Bool, cond, List, [], Ok, Err, Result}
use Rattle.policy.specs.Meaning.{Meaning, Order, places_of}
use Rattle.policy.specs.Making.{policy_number, numbers_fit, reach_of}
use Rattle.policy.specs.Moves.{waiting_in}
use Rattle.policy.specs.declared.entry.Entry.{Entry}
use Rattle.policy.specs.declared.room.Room.{Room}
use Rattle.policy.specs.declared.making.PolicyRefusal.{PolicyRefusal}

-- An order over n requesters with q places each: every bank is named as itself, and the reach is one span for each place and one more.
abbrev pub ordered : Order → Bool → ℕ → ℕ → ℕ → ℕ → ℕ → List Entry → Meaning
ordered order holds n q span banks clock entries = record { requesters = n; places = places_of n q; span = span; banks = banks; reach = reach_of n q span; holds = holds; bank_name = λ b _. b; order = order; clock = clock; waiting = entries }

-- An order over the entries that wait in a room.
abbrev pub room_meaning : Order → Bool → Room → Meaning
room_meaning order holds r =
    ordered order holds r.numbers.requesters r.numbers.places r.numbers.span r.numbers.banks r.clock (waiting_in r)

-- An answer as it is told: what the policy means, or the number of the refusal.
abbrev pub policy_told : {P : Type 0} → (P → Meaning) → Result P PolicyRefusal → Result Meaning ℕ
policy_told meaning (Ok p) = Ok (meaning p)
policy_told meaning (Err e) = Err (policy_number e)

-- An order in which nothing waits and no call has come yet, or refusal 6 where a number is out of range.
abbrev pub policy_made : Order → Bool → ℕ → ℕ → ℕ → ℕ → Result Meaning ℕ
policy_made order holds n q span banks =
    cond (numbers_fit n q span banks) (Ok (ordered order holds n q span banks 0 [])) (Err 6)
