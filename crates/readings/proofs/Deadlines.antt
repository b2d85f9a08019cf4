-- Deadlines and refusals on the small board: each chain step by step, and the deadlines of every machine in such a state.
use Rattle.std.proofs.Common.{◌≡◌, ℕ, ◌+◌, ◌-◌, ◌*◌, ◌<◌, ◌≤◌, true, false, cond, eqb, [], ◌∷◌, length, None, refl, ap, ◌∙◌, subst, arith}
use Rattle.rulebook.specs.declared.command.Kind.TheVariants.{Read}
use Rattle.policy.specs.Meaning.{Order, first_come, turn_order, own, first_own_slot, slot_end, JoinsBy}
use Rattle.machine.specs.Machine.{Machine, base_at, base, entry_for, Accepted, accepted, refused, Chain}
use Rattle.machine.proofs.Offers.{acceptable}
use Rattle.readings.specs.Small.{turn_board, read_by}
use Rattle.readings.specs.Calls.{offered, quiet, AnsweredOnly}
use Rattle.readings.specs.Deadlines.{Names, AcceptsNone, FirstIdle, TurnWaiting, FirstComeDeadlines, TurnOrderFills, TurnOrderDeadlines, LateInTheSession}
use Rattle.readings.proofs.Board.{board, same, Opens, answered_only, idle, idle_chain, waits, one_of, asked, idle_accepts}

pub first_opens : Opens first_come false 1000000
first_opens = record { named = λ e. cc; turns_hold = λ e. cc; last_in = (omega arith, omega arith) }

short_opens : Opens first_come false 180
short_opens = record { named = first_opens.named; turns_hold = first_opens.turns_hold; last_in = (omega arith, omega arith) }

turn_opens : Opens turn_order true 1000000
turn_opens = record { named = λ e. cc; turns_hold = λ _. refl; last_in = (omega arith, omega arith) }

-- what first come says of the deadline, in any machine
first_names : (m : Machine) (r clock : ℕ) → FirstIdle m clock → Names m r ((clock - 1) + 36 * (0 + 1))
first_names m r clock f q number d n who a =
    let joins = subst (λ (o : Order). JoinsBy o m.policy m.clock (base m) (entry_for m.policy q number a.kind d) n.policy) f.order_is a.taken.by_order in
    joins.1 ∙ (λ i. base_at (f.clock_is i) (f.span_is i) (f.nothing_served i) + f.span_is i * (length (f.nothing_waits i) + 1))

-- what turn order says of it
turn_names : (m : Machine) (r ahead clock : ℕ) → TurnWaiting m r ahead clock → Names m r (slot_end 36 (first_own_slot 36 2 r clock + ahead * 2))
turn_names m r ahead clock f q number d n who a =
    let joins = subst (λ (o : Order). JoinsBy o m.policy m.clock (base m) (entry_for m.policy q number a.kind d) n.policy) f.order_is a.taken.by_order in
    let before : length (own q.requester m.policy.waiting) ≡ ahead = ap (λ (x : ℕ). length (own x m.policy.waiting)) who ∙ f.ahead_is in
    joins.1 ∙ (λ i. slot_end (f.span_is i) (first_own_slot (f.span_is i) (f.two i) (who i) (f.clock_is i) + before i * f.two i))

-- where all places wait, nothing is accepted
none_left : (m : Machine) (r clock : ℕ) → TurnWaiting m r 2 clock → AcceptsNone m r
none_left m r clock f q number d n who a =
    let room : length (own r m.policy.waiting) < m.policy.places r = subst (λ (x : ℕ). length (own x m.policy.waiting) < m.policy.places x) who (acceptable m q a.no_reason).room in
    omega (arith, room, f.ahead_is, f.two_places)

-- where the reach goes past the last cycle, nothing is accepted
too_late : (m : Machine) (r : ℕ) → m.policy.reach ≡ 180 → m.last ≡ 180 → m.clock ≡ 2 → AcceptsNone m r
too_late m r reach last clock q number d n who a = omega (arith, (acceptable m q a.no_reason).early, reach, last, clock)

pub first_come_deadlines : FirstComeDeadlines
first_come_deadlines = record {
  at_one = answered_only first_come false 1000000 first_opens _ (asked first_come false 1000000 0 0 36)
      (_, idle_accepts first_come false 1000000 0 0 36 refl (omega arith) (omega arith) (omega arith) (refl, refl), refl);
  at_one_always = λ m r f. first_names m r 1 f;
  at_five = answered_only first_come false 1000000 first_opens _ (asked first_come false 1000000 4 0 40)
      (idle_chain first_come false 1000000 4 0 (offered (read_by 0) (accepted 0 40) ∷ []) (asked first_come false 1000000 4 0 40) (omega arith)
      (_, idle_accepts first_come false 1000000 4 0 40 refl (omega arith) (omega arith) (omega arith) (refl, refl), refl));
  at_five_always = λ m r f. first_names m r 5 f;
}

-- requester 1's first and second request wait
abbrev one_waits : Machine
one_waits = asked turn_order true 1000000 0 1 72

abbrev both_wait : Machine
both_wait = board turn_order true 1000000 1 1 (waits 1 0 72 ∷ waits 1 1 144 ∷ []) None (λ x. cond (eqb x 1) (one_of 1 x + 1) (one_of 1 x)) []

second_joins : Accepted one_waits (read_by 1) 1 144 both_wait
second_joins = record {
  no_reason = refl;
  number_is = refl;
  kind = Read;
  kind_is = refl;
  taken = record {
    shape = same turn_order true 1 1 (waits 1 0 72 ∷ []) (waits 1 0 72 ∷ waits 1 1 144 ∷ []);
    room = omega arith;
    joins = (waits 1 0 72 ∷ [], [], refl, refl);
    within_reach = omega arith;
    timely = (omega arith, (omega arith, tt));
    clock_is = refl;
    by_order = (refl, refl);
  };
  counted = refl;
  rest_same = (refl, refl, refl, refl, refl, refl);
}

pub turn_order_fills : TurnOrderFills
turn_order_fills = record {
  three_offers = answered_only turn_order true 1000000 turn_opens _ both_wait
      (one_waits, idle_accepts turn_order true 1000000 0 1 72 refl (omega arith) (omega arith) (omega arith) (refl, refl), (both_wait, second_joins, (both_wait, (refl, refl), refl)));
  first_always = λ m f. turn_names m 1 0 1 f;
  second_always = λ m f. turn_names m 1 1 1 f;
  third_never = λ m f. none_left m 1 1 f;
}

-- requester 0 alone after c cycles
alone : (c deadline : ℕ) → Chain (idle turn_order true 1000000 c) (offered (read_by 0) (accepted 0 deadline) ∷ []) (asked turn_order true 1000000 c 0 deadline) → c + 0 ≤ 1000000 → AnsweredOnly (turn_board 1000000) (quiet c (offered (read_by 0) (accepted 0 deadline) ∷ []))
alone c deadline h l = answered_only turn_order true 1000000 turn_opens _ (asked turn_order true 1000000 c 0 deadline) (idle_chain turn_order true 1000000 c 0 (offered (read_by 0) (accepted 0 deadline) ∷ []) (asked turn_order true 1000000 c 0 deadline) (omega arith) (subst (λ (t : ℕ). Chain (idle turn_order true 1000000 t) (offered (read_by 0) (accepted 0 deadline) ∷ []) (asked turn_order true 1000000 c 0 deadline)) (omega arith) h))

pub turn_order_deadlines : TurnOrderDeadlines
turn_order_deadlines = record {
  at_two = alone 1 108 (_, idle_accepts turn_order true 1000000 1 0 108 refl (omega arith) (omega arith) (omega arith) (refl, refl), refl) (omega arith);
  at_two_always = λ m f. turn_names m 0 0 2 f;
  at_seventy_three = alone 72 108 (_, idle_accepts turn_order true 1000000 72 0 108 refl (omega arith) (omega arith) (omega arith) (refl, refl), refl) (omega arith);
  at_seventy_three_always = λ m f. turn_names m 0 0 73 f;
  at_seventy_four = alone 73 180 (_, idle_accepts turn_order true 1000000 73 0 180 refl (omega arith) (omega arith) (omega arith) (refl, refl), refl) (omega arith);
  at_seventy_four_always = λ m f. turn_names m 0 0 74 f;
}

pub late_in_the_session : LateInTheSession
late_in_the_session = record {
  at_one = answered_only first_come false 180 short_opens _ (asked first_come false 180 0 0 36)
      (_, idle_accepts first_come false 180 0 0 36 refl (omega arith) (omega arith) (omega arith) (refl, refl), refl);
  at_two = answered_only first_come false 180 short_opens _ (idle first_come false 180 1)
      (idle_chain first_come false 180 1 0 (offered (read_by 0) (refused 12) ∷ []) (idle first_come false 180 1) (omega arith) (_, (refl, refl), refl));
  at_two_never = too_late;
}
