-- The small board at work: its states, ticks with nothing to do, an offer to an idle board, and why each answer is the only one.
use Rattle.std.proofs.Common.{◌≡◌, ℕ, zero, suc, ◌+◌, ◌-◌, ◌<◌, ◌≤◌, Bool, true, cond, eqb, ◌≢◌, List, [], ◌∷◌, None, Option, refl, subst, arith}
use Rattle.rulebook.specs.declared.command.Command.{Command}
use Rattle.rulebook.specs.declared.command.Kind.TheVariants.{Read}
use Rattle.policy.specs.declared.entry.Entry.{Entry}
use Rattle.policy.specs.Meaning.{Order, free, first_come, turn_order, Meaning, WellShaped, SameShape, places_of, JoinsBy, IdleBy}
use Rattle.policy.specs.Orders.{ordered}
use Rattle.policy.specs.Ordered.{places_inside, places_outside}
use Rattle.machine.specs.Machine.{Service, Machine, opened, offer_refusal, Accepted, Ticked, Exchange, Chain}
use Rattle.machine.specs.Opens.{Fits}
use Rattle.machine.proofs.Determined.{answers_determined}
use Rattle.readings.specs.Small.{small_sheet, small_chip, read_by}
use Rattle.readings.specs.Calls.{quiet, AnsweredOnly}

-- an order over the entries that wait, at a clock of the policy
abbrev pub orders : Order → Bool → ℕ → List Entry → Meaning
orders o holds clock es = ordered o holds 2 2 36 8 clock es

-- the board at a clock
abbrev pub board : Order → Bool → ℕ → ℕ → ℕ → List Entry → Option Service → (ℕ → ℕ) → List Command → Machine
board o holds last policy_clock clock es now counts trace = record { sheet = small_sheet; chip = small_chip; last = last; policy = orders o holds policy_clock es; clock = clock; service = now; accepted = counts; trace = trace }

pub same : (o : Order) (holds : Bool) (c d : ℕ) (es fs : List Entry) → SameShape (orders o holds c es) (orders o holds d fs)
same o holds c d es fs = record { requesters_same = refl; places_same = refl; span_same = refl; banks_same = refl; reach_same = refl; holds_same = refl; names_same = refl; order_same = refl }

-- what a board is opened with: an order that says who is next, and a last cycle
pub record Opens (o : Order) (holds : Bool) (last : ℕ) : Type 0 where
  pub named : o ≢ free
  pub turns_hold : o ≡ turn_order → holds ≡ true
  pub last_in : (1 ≤ last) × (last ≤ 4000000000)

shaped : (o : Order) (holds : Bool) → (o ≡ turn_order → holds ≡ true) → WellShaped (orders o holds 0 [])
shaped o holds h = record {
  some_requester = (omega arith, omega arith);
  few_places = λ r l. (omega (arith, places_inside 2 2 r l), omega (arith, places_inside 2 2 r l));
  no_stranger = λ r l. places_outside 2 2 r l;
  span_bound = (omega arith, omega arith);
  bank_bound = (omega arith, omega arith);
  reach_bound = omega arith;
  name_inside = λ b r l. l;
  name_apart = λ b d r l k e. e;
  turns_hold = h;
}

pub fits : (o : Order) (holds : Bool) (last : ℕ) → Opens o holds last → Fits small_sheet small_chip last (orders o holds 0 [])
fits o holds last f = record { last_in = f.last_in; shaped = shaped o holds f.turns_hold; nothing_waits = refl; span_fits = refl; banks_fit = refl }

-- a chain from the opened board is the only one of its calls
pub answered_only : (o : Order) (holds : Bool) (last : ℕ) → Opens o holds last → (log : List Exchange) (ends : Machine) → Chain (opened small_sheet small_chip last (orders o holds 0 [])) log ends → AnsweredOnly (opened small_sheet small_chip last (orders o holds 0 [])) log
answered_only o holds last f log ends c = record {
  ends = ends;
  so = c;
  only = λ other n d e. answers_determined small_sheet small_chip last (orders o holds 0 []) (fits o holds last f) f.named other log n ends d c e;
}

-- the board after c cycles in which nothing was asked of it
abbrev pub idle : Order → Bool → ℕ → ℕ → Machine
idle o holds last c = board o holds last c (c + 1) [] None (λ _. 0) []

nothing_due : (o : Order) (p : Meaning) → p.waiting ≡ [] → IdleBy o p
nothing_due free p e = tt
nothing_due first_come p e = e
nothing_due turn_order p e = tt

idle_tick : (o : Order) (holds : Bool) (last c : ℕ) → c + 1 ≤ last → Ticked (idle o holds last c) None (idle o holds last (c + 1))
idle_tick o holds last c l = record {
  running = l;
  now_served = None;
  in_service = (None, (same o holds c (c + 1) [] [], refl, refl, tt, nothing_due o (orders o holds c []) refl), refl);
  goes = refl;
  clock_rises = refl;
  trace_grows = refl;
  rest_same = (refl, refl, refl, refl);
}

pub idle_chain : (o : Order) (holds : Bool) (last n c : ℕ) (log : List Exchange) (ends : Machine) → c + n ≤ last → Chain (idle o holds last (c + n)) log ends → Chain (idle o holds last c) (quiet n log) ends
idle_chain o holds last zero c log ends l h = subst (λ (t : ℕ). Chain (idle o holds last t) log ends) (omega arith) h
idle_chain o holds last (suc n) c log ends l h = (
  idle o holds last (c + 1),
  idle_tick o holds last c (omega arith),
  idle_chain o holds last n (c + 1) log ends (omega arith) (subst (λ (t : ℕ). Chain (idle o holds last t) log ends) (omega arith) h),
)

-- the first request of a requester as it waits
abbrev pub waits : ℕ → ℕ → ℕ → Entry
waits r number deadline = record { requester = r; number = number; kind = Read; bank = 0; row = 7; column = 16; deadline = deadline }

-- the counts once an offer of a requester was accepted
abbrev pub one_of : ℕ → ℕ → ℕ
one_of r x = cond (eqb x r) (0 + 1) 0

-- the idle board once it accepted an offer
abbrev pub asked : Order → Bool → ℕ → ℕ → ℕ → ℕ → Machine
asked o holds last c r deadline = board o holds last (c + 1) (c + 1) (waits r 0 deadline ∷ []) None (one_of r) []

pub idle_accepts : (o : Order) (holds : Bool) (last c r deadline : ℕ) → offer_refusal (idle o holds last c) (read_by r) ≡ None → 0 < places_of 2 2 r → deadline + 1 ≤ (c + 1) + 180 → ((c + 1) - 1) + 36 ≤ deadline →
    JoinsBy o (orders o holds c []) (c + 1) ((c + 1) - 1) (waits r 0 deadline) (orders o holds (c + 1) (waits r 0 deadline ∷ [])) →
    Accepted (idle o holds last c) (read_by r) 0 deadline (asked o holds last c r deadline)
idle_accepts o holds last c r deadline free_to some near late by = record {
  no_reason = free_to;
  number_is = refl;
  kind = Read;
  kind_is = refl;
  taken = record { shape = same o holds c (c + 1) [] (waits r 0 deadline ∷ []); room = some; joins = ([], [], refl, refl); within_reach = near; timely = (late, tt); clock_is = refl; by_order = by };
  counted = refl;
  rest_same = (refl, refl, refl, refl, refl, refl);
}
