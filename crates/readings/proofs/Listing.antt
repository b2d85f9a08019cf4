-- The two requests, step by step: each command goes out when the record of the trace takes it in, and waits while the record refuses it.
use Rattle.std.proofs.Common.{◌≡◌, ℕ, ◌+◌, ◌≤◌, false, cond, eqb, List, [], ◌∷◌, ◌++◌, Some, None, Option, refl, ap, subst, arith}
use Rattle.rulebook.specs.declared.command.Command.{Command}
use Rattle.rulebook.specs.declared.command.Kind.TheVariants.{Write}
use Rattle.rulebook.specs.declared.rule.Rule.{Rule}
use Rattle.rulebook.specs.declared.rule.Rule.TheVariants.{ActivateActivateSame, ActivatePrecharge, ActivateColumn}
use Rattle.rulebook.specs.declared.book.Book.{Book}
use Rattle.rulebook.specs.Book.{Obeys}
use Rattle.rulebook.specs.Record.{no_book, book_with}
use Rattle.rulebook.specs.Answer.{broken_rule}
use Rattle.trace.specs.Digits.{digit, digits}
use Rattle.policy.specs.declared.entry.Entry.{Entry}
use Rattle.policy.specs.Meaning.{first_come}
use Rattle.machine.specs.Machine.{Service, Machine, next_command, Accepted, Goes, stays_after, extended, Ticked, Exchange, Chain}
use Rattle.machine.specs.Promises.{commands}
use Rattle.machine.specs.Determined.{events}
use Rattle.machine.proofs.Determined.{answers_determined}
use Rattle.readings.specs.Small.{small_sheet, small_chip, first_of_two, first_board}
use Rattle.readings.specs.Calls.{sends, quiet}
use Rattle.readings.specs.Listing.{second_request, first_activate, first_read, second_precharge, second_activate, second_write, listed, two_requests, TwoRequestListing}
use Rattle.readings.proofs.Known.{Known, nothing_known, one_more, too_early}
use Rattle.readings.proofs.Board.{board, same, fits, answered_only, waits, one_of, asked, idle_accepts}
use Rattle.readings.proofs.Deadlines.{first_opens}

-- the board under first come
abbrev at : ℕ → ℕ → List Entry → Option Service → (ℕ → ℕ) → List Command → Machine
at policy_clock clock es now counts trace = board first_come false 1000000 policy_clock clock es now counts trace

-- what is in service sends its next command where the record takes it in
goes_out : (policy_clock clock : ℕ) (es : List Entry) (was : Option Service) (counts : ℕ → ℕ) (trace : List Command) (b : Book) (s : Service) (c : Command) →
    c ≡ next_command (at policy_clock clock es was counts trace) s.entry → Known small_sheet small_chip (trace ++ (c ∷ [])) b → Goes (at policy_clock clock es was counts trace) (Some s) (Some c) (stays_after c.kind s)
goes_out policy_clock clock es was counts trace b s c is n = (is, (subst (λ (d : Command). Obeys small_sheet small_chip (trace ++ (d ∷ []))) is n.obeys, λ h. cc), refl)

-- and waits where it does not
waits_on : (policy_clock clock : ℕ) (es : List Entry) (was : Option Service) (counts : ℕ → ℕ) (trace : List Command) (b : Book) (s : Service) (r : Rule) →
    Known small_sheet small_chip trace b → broken_rule small_sheet small_chip b (next_command (at policy_clock clock es was counts trace) s.entry) ≡ Some r → Goes (at policy_clock clock es was counts trace) (Some s) None (Some s)
waits_on policy_clock clock es was counts trace b s r n e = (λ ready. too_early small_sheet small_chip trace b (next_command (at policy_clock clock es was counts trace) s.entry) r n e ready.0, refl)

-- a tick with something in service
runs_on : (policy_clock clock : ℕ) (s : Service) (counts : ℕ → ℕ) (trace : List Command) (answer : Option Command) (then : Option Service) → clock ≤ 1000000 →
    Goes (at policy_clock clock [] (Some s) counts trace) (Some s) answer then → Ticked (at policy_clock clock [] (Some s) counts trace) answer (at policy_clock (clock + 1) [] then counts (extended trace answer))
runs_on policy_clock clock s counts trace answer then l g = record { running = l; now_served = Some s; in_service = (refl, refl); goes = g; clock_rises = refl; trace_grows = refl; rest_same = (refl, refl, refl, refl) }

-- a tick that takes the one entry that waits into service
starts_with : (clock : ℕ) (e : Entry) (counts : ℕ → ℕ) (trace : List Command) (answer : Option Command) (then : Option Service) → clock ≤ 1000000 →
    Goes (at clock clock (e ∷ []) None counts trace) (Some (record { entry = e; start = clock })) answer then → Ticked (at clock clock (e ∷ []) None counts trace) answer (at clock (clock + 1) [] then counts (extended trace answer))
starts_with clock e counts trace answer then l g = record {
  running = l;
  now_served = Some (record { entry = e; start = clock });
  in_service = (Some e, (same first_come false clock clock (e ∷ []) [], refl, refl, λ h. cc), refl);
  goes = g;
  clock_rises = refl;
  trace_grows = refl;
  rest_same = (refl, refl, refl, refl);
}

-- the second request as it waits, and both in service
abbrev second_entry : Entry
second_entry = record { requester = 1; number = 0; kind = Write; bank = 0; row = 9; column = 0; deadline = 40 }

abbrev first_service : Service
first_service = record { entry = waits 0 0 36; start = 1 }

abbrev second_service : Service
second_service = record { entry = second_entry; start = 5 }

abbrev both_of : ℕ → ℕ
both_of x = cond (eqb x 1) (one_of 0 x + 1) (one_of 0 x)

-- the trace after each command, and its record
abbrev trace_one : List Command
trace_one = first_activate ∷ []

abbrev trace_two : List Command
trace_two = first_activate ∷ first_read ∷ []

abbrev trace_three : List Command
trace_three = first_activate ∷ first_read ∷ second_precharge ∷ []

abbrev trace_four : List Command
trace_four = first_activate ∷ first_read ∷ second_precharge ∷ second_activate ∷ []

abbrev book_one : Book
book_one = book_with no_book first_activate

abbrev book_two : Book
book_two = book_with book_one first_read

abbrev book_three : Book
book_three = book_with book_two second_precharge

abbrev book_four : Book
book_four = book_with book_three second_activate

abbrev book_five : Book
book_five = book_with book_four second_write

known_one : Known small_sheet small_chip trace_one book_one
known_one = one_more small_sheet small_chip [] no_book first_activate (nothing_known small_sheet small_chip) refl

known_two : Known small_sheet small_chip trace_two book_two
known_two = one_more small_sheet small_chip trace_one book_one first_read known_one refl

known_three : Known small_sheet small_chip trace_three book_three
known_three = one_more small_sheet small_chip trace_two book_two second_precharge known_two refl

known_four : Known small_sheet small_chip trace_four book_four
known_four = one_more small_sheet small_chip trace_three book_three second_activate known_three refl

known_five : Known small_sheet small_chip listed book_five
known_five = one_more small_sheet small_chip trace_four book_four second_write known_four refl

-- the first request is in service from cycle 1, the second from cycle 5
abbrev serving_first : ℕ → Machine
serving_first clock = at 1 clock [] (Some first_service) (one_of 0) trace_one

abbrev serving_second : ℕ → List Command → Machine
serving_second clock trace = at 5 clock [] (Some second_service) both_of trace

second_joins : Accepted (at 1 5 [] None (one_of 0) trace_two) second_request 0 40 (at 5 5 (second_entry ∷ []) None both_of trace_two)
second_joins = record {
  no_reason = refl;
  number_is = refl;
  kind = Write;
  kind_is = refl;
  taken = record { shape = same first_come false 1 5 [] (second_entry ∷ []); room = omega arith; joins = ([], [], refl, refl); within_reach = omega arith; timely = (omega arith, tt); clock_is = refl; by_order = (refl, refl) };
  counted = refl;
  rest_same = (refl, refl, refl, refl, refl, refl);
}

first_wait : (clock : ℕ) → clock ≤ 1000000 → broken_rule small_sheet small_chip book_one (next_command (serving_first clock) (waits 0 0 36)) ≡ Some ActivateColumn → Ticked (serving_first clock) None (serving_first (clock + 1))
first_wait clock l e = runs_on 1 clock first_service (one_of 0) trace_one None (Some first_service) l (waits_on 1 clock [] (Some first_service) (one_of 0) trace_one book_one first_service ActivateColumn known_one e)

second_wait : (clock : ℕ) (trace : List Command) (b : Book) (r : Rule) → clock ≤ 1000000 → Known small_sheet small_chip trace b → broken_rule small_sheet small_chip b (next_command (serving_second clock trace) second_entry) ≡ Some r → Ticked (serving_second clock trace) None (serving_second (clock + 1) trace)
second_wait clock trace b r l n e = runs_on 5 clock second_service both_of trace None (Some second_service) l (waits_on 5 clock [] (Some second_service) both_of trace b second_service r n e)

-- where it ends
abbrev ends : Machine
ends = at 5 16 [] None both_of listed

-- the last calls first: what each command leaves to be sent
abbrev after_activate : List Exchange
after_activate = quiet 2 (sends second_write ∷ [])

writes : Chain (serving_second 13 trace_four) after_activate ends
writes = (
  serving_second 14 trace_four,
  second_wait 13 trace_four book_four ActivateColumn (omega arith) known_four refl,
  (
    serving_second 15 trace_four,
    second_wait 14 trace_four book_four ActivateColumn (omega arith) known_four refl,
    (
      ends,
      runs_on 5 15 second_service both_of trace_four (Some second_write) None (omega arith) (goes_out 5 15 [] (Some second_service) both_of trace_four book_five second_service second_write refl known_five),
      refl,
    ),
  ),
)

abbrev after_precharge : List Exchange
after_precharge = quiet 2 (sends second_activate ∷ after_activate)

activates : Chain (serving_second 10 trace_three) after_precharge ends
activates = (
  serving_second 11 trace_three,
  second_wait 10 trace_three book_three ActivateActivateSame (omega arith) known_three refl,
  (
    serving_second 12 trace_three,
    second_wait 11 trace_three book_three ActivateActivateSame (omega arith) known_three refl,
    (
      serving_second 13 trace_four,
      runs_on 5 12 second_service both_of trace_three (Some second_activate) (Some second_service) (omega arith) (goes_out 5 12 [] (Some second_service) both_of trace_three book_four second_service second_activate refl known_four),
      writes,
    ),
  ),
)

abbrev after_offer : List Exchange
after_offer = quiet 4 (sends second_precharge ∷ after_precharge)

precharges : Chain (at 5 5 (second_entry ∷ []) None both_of trace_two) after_offer ends
precharges = (
  serving_second 6 trace_two,
  starts_with 5 second_entry both_of trace_two None (Some second_service) (omega arith) (waits_on 5 5 (second_entry ∷ []) None both_of trace_two book_two second_service ActivatePrecharge known_two refl),
  (
    serving_second 7 trace_two,
    second_wait 6 trace_two book_two ActivatePrecharge (omega arith) known_two refl,
    (
      serving_second 8 trace_two,
      second_wait 7 trace_two book_two ActivatePrecharge (omega arith) known_two refl,
      (
        serving_second 9 trace_two,
        second_wait 8 trace_two book_two ActivatePrecharge (omega arith) known_two refl,
        (
          serving_second 10 trace_three,
          runs_on 5 9 second_service both_of trace_two (Some second_precharge) (Some second_service) (omega arith) (goes_out 5 9 [] (Some second_service) both_of trace_two book_three second_service second_precharge refl known_three),
          activates,
        ),
      ),
    ),
  ),
)

served : Chain (first_board 1000000) two_requests ends
served = (
  asked first_come false 1000000 0 0 36,
  idle_accepts first_come false 1000000 0 0 36 refl (omega arith) (omega arith) (omega arith) (refl, refl),
  (
    serving_first 2,
    starts_with 1 (waits 0 0 36) (one_of 0) [] (Some first_activate) (Some first_service) (omega arith) (goes_out 1 1 (waits 0 0 36 ∷ []) None (one_of 0) [] book_one first_service first_activate refl known_one),
    (
      serving_first 3,
      first_wait 2 (omega arith) refl,
      (
        serving_first 4,
        first_wait 3 (omega arith) refl,
        (
          at 1 5 [] None (one_of 0) trace_two,
          runs_on 1 4 first_service (one_of 0) trace_one (Some first_read) None (omega arith) (goes_out 1 4 [] (Some first_service) (one_of 0) trace_one book_two first_service first_read refl known_two),
          (
            at 5 5 (second_entry ∷ []) None both_of trace_two,
            second_joins,
            precharges,
          ),
        ),
      ),
    ),
  ),
)

only_so : (log : List Exchange) (n : Machine) → Chain (first_board 1000000) log n → events log ≡ events two_requests → (log ≡ two_requests) × (n ≡ ends)
only_so log n c e = answers_determined small_sheet small_chip 1000000 first_of_two (fits first_come false 1000000 first_opens) first_opens.named log two_requests n ends c served e

pub two_request_listing : TwoRequestListing
unfolding digits digit
two_request_listing = record {
  answered = answered_only first_come false 1000000 first_opens two_requests ends served;
  sent = refl;
  always_sent = λ log n c e. ap commands (only_so log n c e).0;
  all_served = λ log n c e. let same_end = (only_so log n c e).1 in (ap (λ (m : Machine). m.service) same_end, ap (λ (m : Machine). m.policy.waiting) same_end);
  lines = ((refl, (refl, (refl, (refl, (refl, tt))))), refl);
  accepted_two = refl;
  refused_none = refl;
  last_line = refl;
}
