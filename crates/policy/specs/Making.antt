-- What making a policy answers: the refusal by its number, or what is made.
use Rattle.std.specs.Prelude.{ℕ, ◌+◌, ◌*◌, Bool, cond, ◌&&◌, Ok, Err, Result, nat_le}
use Rattle.policy.specs.declared.numbers.Numbers.{Numbers}
use Rattle.policy.specs.declared.making.PolicyRefusal.{PolicyRefusal}
use Rattle.policy.specs.declared.making.PolicyRefusal.TheVariants.{Number}

-- The number of a refusal.
abbrev pub policy_number : PolicyRefusal → ℕ
policy_number Number = 6

-- A number is at least the low bound and at most the high one.
abbrev pub within : ℕ → ℕ → ℕ → Bool
within low high n = nat_le low n && nat_le n high

-- Requesters, places of each, span and banks are within their limits.
abbrev pub numbers_fit : ℕ → ℕ → ℕ → ℕ → Bool
numbers_fit requesters places span banks =
    within 1 16 requesters && (within 1 8 places && (within 7 1785 span && within 1 16 banks))

-- An answer as it is told: requesters, places, span and banks, or the number of the refusal.
abbrev pub numbers_told : Result Numbers PolicyRefusal → Result (ℕ × ℕ × ℕ × ℕ) ℕ
numbers_told (Ok n) = Ok (n.requesters, n.places, n.span, n.banks)
numbers_told (Err e) = Err (policy_number e)

-- The numbers as given, or refusal 6 where one is out of range.
abbrev pub numbers_made : ℕ → ℕ → ℕ → ℕ → Result (ℕ × ℕ × ℕ × ℕ) ℕ
numbers_made requesters places span banks =
    cond (numbers_fit requesters places span banks) (Ok (requesters, places, span, banks)) (Err 6)

-- One span for each place there is, and one more.
abbrev pub reach_of : ℕ → ℕ → ℕ → ℕ
reach_of requesters places span = span * (requesters * places + 1)
