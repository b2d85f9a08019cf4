-- The deadlines and refusals of both orders on the small board.
use Rattle.std.specs.Prelude.{◌≡◌, ℕ, [], ◌∷◌, length, None}
use Rattle.policy.specs.declared.entry.Request.{Request}
use Rattle.policy.specs.Meaning.{first_come, turn_order, own}
use Rattle.machine.specs.Machine.{Machine, Accepted, accepted, refused}
use Rattle.readings.specs.Small.{first_board, turn_board, read_by}
use Rattle.readings.specs.Calls.{offered, quiet, AnsweredOnly}

-- Every offer that a machine accepts of a requester has this deadline.
abbrev pub Names : Machine → ℕ → ℕ → Type 0
Names m r deadline = (q : Request) (number d : ℕ) (n : Machine) → q.requester ≡ r → Accepted m q number d n → d ≡ deadline

-- No offer of a requester is accepted.
abbrev pub AcceptsNone : Machine → ℕ → Type 0
AcceptsNone m r = (q : Request) (number d : ℕ) (n : Machine) → q.requester ≡ r → Accepted m q number d n → ⊥

-- A machine is under first come with a span of 36, at this clock, and nothing waits or is in service.
pub record FirstIdle (m : Machine) (clock : ℕ) : Type 0 where
  pub order_is : m.policy.order ≡ first_come
  pub span_is : m.policy.span ≡ 36
  pub nothing_waits : m.policy.waiting ≡ []
  pub nothing_served : m.service ≡ None
  pub clock_is : m.clock ≡ clock

-- A machine is under turn order of two requesters with two places each and a span of 36, at this clock, and so many entries of this requester wait.
pub record TurnWaiting (m : Machine) (r ahead clock : ℕ) : Type 0 where
  pub order_is : m.policy.order ≡ turn_order
  pub span_is : m.policy.span ≡ 36
  pub two : m.policy.requesters ≡ 2
  pub two_places : m.policy.places r ≡ 2
  pub ahead_is : length (own r m.policy.waiting) ≡ ahead
  pub clock_is : m.clock ≡ clock

-- First come: at cycle 1 deadline 36; where nothing waits or is in service at cycle 5, deadline 40.
pub record FirstComeDeadlines : Type 0 where
  pub at_one : AnsweredOnly (first_board 1000000) (offered (read_by 0) (accepted 0 36) ∷ [])
  pub at_one_always : (m : Machine) (r : ℕ) → FirstIdle m 1 → Names m r 36
  pub at_five : AnsweredOnly (first_board 1000000) (quiet 4 (offered (read_by 0) (accepted 0 40) ∷ []))
  pub at_five_always : (m : Machine) (r : ℕ) → FirstIdle m 5 → Names m r 40

-- Turn order at cycle 1, requester 1 three times: 72, 144, and then all its places are waiting.
pub record TurnOrderFills : Type 0 where
  pub three_offers : AnsweredOnly (turn_board 1000000) (offered (read_by 1) (accepted 0 72) ∷ offered (read_by 1) (accepted 1 144) ∷ offered (read_by 1) (refused 13) ∷ [])
  pub first_always : (m : Machine) → TurnWaiting m 1 0 1 → Names m 1 72
  pub second_always : (m : Machine) → TurnWaiting m 1 1 1 → Names m 1 144
  pub third_never : (m : Machine) → TurnWaiting m 1 2 1 → AcceptsNone m 1

-- Turn order takes no slot that has begun: requester 0 alone has deadline 108 at the cycles 2 and 73, and 180 at 74.
pub record TurnOrderDeadlines : Type 0 where
  pub at_two : AnsweredOnly (turn_board 1000000) (quiet 1 (offered (read_by 0) (accepted 0 108) ∷ []))
  pub at_two_always : (m : Machine) → TurnWaiting m 0 0 2 → Names m 0 108
  pub at_seventy_three : AnsweredOnly (turn_board 1000000) (quiet 72 (offered (read_by 0) (accepted 0 108) ∷ []))
  pub at_seventy_three_always : (m : Machine) → TurnWaiting m 0 0 73 → Names m 0 108
  pub at_seventy_four : AnsweredOnly (turn_board 1000000) (quiet 73 (offered (read_by 0) (accepted 0 180) ∷ []))
  pub at_seventy_four_always : (m : Machine) → TurnWaiting m 0 0 74 → Names m 0 180

-- First come with the last cycle 180: an offer is accepted at cycle 1, and refused by 12 at cycle 2; with that reach no offer is accepted then.
pub record LateInTheSession : Type 0 where
  pub at_one : AnsweredOnly (first_board 180) (offered (read_by 0) (accepted 0 36) ∷ [])
  pub at_two : AnsweredOnly (first_board 180) (quiet 1 (offered (read_by 0) (refused 12) ∷ []))
  pub at_two_never : (m : Machine) (r : ℕ) → m.policy.reach ≡ 180 → m.last ≡ 180 → m.clock ≡ 2 → AcceptsNone m r
