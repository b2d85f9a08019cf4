-- The small session, step by step.
use Rattle.std.proofs.Common.{◌≡◌, ℕ, ◌+◌, ◌<◌, true, cond, eqb, List, [], ◌∷◌, Some, None, Option, refl, arith}
use Rattle.rulebook.specs.declared.command.Command.{Command}
use Rattle.rulebook.specs.declared.command.Kind.TheVariants.{Read}
use Rattle.rulebook.specs.Book.{Obeys}
use Rattle.rulebook.proofs.Obeying.{nothing_obeys, longer_obeys}
use Rattle.rulebook.proofs.Lawful.{activate_in_time, column_in_time}
use Rattle.policy.specs.declared.entry.Entry.{Entry}
use Rattle.policy.specs.Meaning.{WellShaped, SameShape, turn_order}
use Rattle.policy.specs.Orders.{ordered}
use Rattle.policy.specs.Ordered.{places_inside, places_outside}
use Rattle.machine.specs.Machine.{Service, Machine, opened, Accepted, Ticked, offer, refused, Chain}
use Rattle.machine.specs.Opens.{Fits}
use Rattle.machine.specs.Example.{small_sheet, small_chip, small_policy, small_request, small_activate, small_read, small_log, ExampleStands}
use Rattle.machine.proofs.Kept.{served_once_in_time}

small_shaped : WellShaped small_policy
small_shaped = record {
  some_requester = (omega arith, omega arith);
  few_places = λ r l. (omega (arith, places_inside 1 1 r l), omega (arith, places_inside 1 1 r l));
  no_stranger = λ r l. places_outside 1 1 r l;
  span_bound = (omega arith, omega arith);
  bank_bound = (omega arith, omega arith);
  reach_bound = omega arith;
  name_inside = λ b r l. l;
  name_apart = λ b d r l k e. e;
  turns_hold = λ _. refl;
}

small_fits : Fits small_sheet small_chip 100 small_policy
small_fits = record { last_in = (omega arith, omega arith); shaped = small_shaped; nothing_waits = refl; span_fits = refl; banks_fit = refl }

-- the request as it waits
abbrev small_entry : Entry
small_entry = record { requester = 0; number = 0; kind = Read; bank = 1; row = 2; column = 3; deadline = 7 }

abbrev small_service : Service
small_service = record { entry = small_entry; start = 1 }

-- the session at a clock
abbrev small_at : ℕ → ℕ → List Entry → Option Service → List Command → Machine
small_at policy_clock clock es now trace = record { sheet = small_sheet; chip = small_chip; last = 100; policy = ordered turn_order true 1 1 7 2 policy_clock es; clock = clock; service = now; accepted = λ r. cond (eqb r 0) (0 + 1) 0; trace = trace }

same : (c d : ℕ) (es fs : List Entry) → SameShape (ordered turn_order true 1 1 7 2 c es) (ordered turn_order true 1 1 7 2 d fs)
same c d es fs = record { requesters_same = refl; places_same = refl; span_same = refl; banks_same = refl; reach_same = refl; holds_same = refl; names_same = refl; order_same = refl }

first_accepted : Accepted (opened small_sheet small_chip 100 small_policy) (small_request 0) 0 7 (small_at 1 1 (small_entry ∷ []) None [])
first_accepted = record {
  no_reason = refl;
  number_is = refl;
  kind = Read;
  kind_is = refl;
  taken = record { shape = same 0 1 [] (small_entry ∷ []); room = omega arith; joins = ([], [], refl, refl); within_reach = omega arith; timely = (omega arith, tt); clock_is = refl; by_order = (refl, refl) };
  counted = refl;
  rest_same = (refl, refl, refl, refl, refl, refl);
}

activate_obeys : Obeys small_sheet small_chip (small_activate ∷ [])
activate_obeys = longer_obeys small_sheet small_chip [] small_activate (nothing_obeys small_sheet small_chip) (activate_in_time small_sheet small_chip [] small_activate 1 refl (omega arith, omega arith, omega arith) refl tt (omega arith))

read_obeys : Obeys small_sheet small_chip (small_activate ∷ small_read ∷ [])
read_obeys = longer_obeys small_sheet small_chip (small_activate ∷ []) small_read activate_obeys (column_in_time small_sheet small_chip (small_activate ∷ []) small_read 2 tt (omega arith, omega arith, omega arith) refl (omega arith, tt) (omega arith))

-- the policy gives the request, and its activate goes out
first_tick : Ticked (small_at 1 1 (small_entry ∷ []) None []) (Some small_activate) (small_at 1 2 [] (Some small_service) (small_activate ∷ []))
first_tick = record {
  running = omega arith;
  now_served = Some small_service;
  in_service = (Some small_entry, (same 1 1 (small_entry ∷ []) [], refl, refl, λ _. refl), refl);
  goes = (refl, (activate_obeys, λ _ column. absurd column), refl);
  clock_rises = refl;
  trace_grows = refl;
  rest_same = (refl, refl, refl, refl);
}

-- the read is held until its deadline
held_tick : (c : ℕ) → c < 7 → Ticked (small_at 1 c [] (Some small_service) (small_activate ∷ [])) None (small_at 1 (c + 1) [] (Some small_service) (small_activate ∷ []))
held_tick c l = record {
  running = omega arith;
  now_served = Some small_service;
  in_service = (refl, refl);
  goes = (λ ready. let z : c ≡ 7 = ready.1 refl tt in omega arith, refl);
  clock_rises = refl;
  trace_grows = refl;
  rest_same = (refl, refl, refl, refl);
}

last_tick : Ticked (small_at 1 7 [] (Some small_service) (small_activate ∷ [])) (Some small_read) (small_at 1 8 [] None (small_activate ∷ small_read ∷ []))
last_tick = record {
  running = omega arith;
  now_served = Some small_service;
  in_service = (refl, refl);
  goes = (refl, (read_obeys, λ _ _. refl), refl);
  clock_rises = refl;
  trace_grows = refl;
  rest_same = (refl, refl, refl, refl);
}

pub example_stands : ExampleStands
example_stands =
    let running : ℕ → Machine = λ (c : ℕ). small_at 1 c [] (Some small_service) (small_activate ∷ []) in
    let ends : Machine = small_at 1 8 [] None (small_activate ∷ small_read ∷ []) in
    let chain : Chain (opened small_sheet small_chip 100 small_policy) small_log ends = (
      opened small_sheet small_chip 100 small_policy,
      (refl, refl),
      (
        small_at 1 1 (small_entry ∷ []) None [],
        first_accepted,
        (
          running 2,
          first_tick,
          (
            running 3,
            held_tick 2 (omega arith),
            (
              running 4,
              held_tick 3 (omega arith),
              (
                running 5,
                held_tick 4 (omega arith),
                (
                  running 6,
                  held_tick 5 (omega arith),
                  (
                    running 7,
                    held_tick 6 (omega arith),
                    (
                      ends,
                      last_tick,
                      refl,
                    ),
                  ),
                ),
              ),
            ),
          ),
        ),
      ),
    ) in
    record {
      fits = small_fits;
      ends = ends;
      chain = chain;
      clock_is = refl;
      served = (served_once_in_time small_sheet small_chip 100 small_policy small_fits small_log ends chain (small_request 0) 0 7
          (record { event = offer (small_request 1); answer = refused 10 } ∷ [], _, refl)).1 (omega arith);
      not_sooner = refl;
    }
