-- Two requests on the small board under first come, from the first offer to the last command.
use Rattle.std.specs.Prelude.{◌≡◌, ℕ, ◌+◌, List, [], ◌∷◌, ◌++◌, None, codes}
use Rattle.rulebook.specs.declared.command.Command.{Command}
use Rattle.rulebook.specs.declared.command.Kind.TheVariants.{Activate, Precharge, Read, Write}
use Rattle.trace.specs.Digits.{digits}
use Rattle.trace.specs.Text.{TextOf}
use Rattle.policy.specs.declared.entry.Request.{Request}
use Rattle.machine.specs.Machine.{Machine, Event, offer, tick, Answer, accepted, ticked, refused, Exchange, Chain}
use Rattle.machine.specs.Promises.{commands}
use Rattle.machine.specs.Determined.{events}
use Rattle.readings.specs.Small.{first_board, read_by}
use Rattle.readings.specs.Calls.{offered, sends, quiet, AnsweredOnly}

-- Requester 1's write of bank 0, row 9, column 0.
abbrev pub second_request : Request
second_request = record { requester = 1; kind = 4; bank = 0; row = 9; column = 0 }

-- The first request's activate: the bank is closed.
abbrev pub first_activate : Command
first_activate = record { cycle = 1; kind = Activate; bank = 0; row = 7; column = 0; requester = 0; number = 0 }

-- Its read, tRCD later.
abbrev pub first_read : Command
first_read = record { cycle = 4; kind = Read; bank = 0; row = 7; column = 16; requester = 0; number = 0 }

-- The second request's precharge: the bank is open at another row, and may close tRAS after its activate.
abbrev pub second_precharge : Command
second_precharge = record { cycle = 9; kind = Precharge; bank = 0; row = 0; column = 0; requester = 1; number = 0 }

-- Its activate, tRP later and tRC after the first one.
abbrev pub second_activate : Command
second_activate = record { cycle = 12; kind = Activate; bank = 0; row = 9; column = 0; requester = 1; number = 0 }

-- Its write, tRCD later.
abbrev pub second_write : Command
second_write = record { cycle = 15; kind = Write; bank = 0; row = 9; column = 0; requester = 1; number = 0 }

-- The five commands, in their order.
abbrev pub listed : List Command
listed = first_activate ∷ first_read ∷ second_precharge ∷ second_activate ∷ second_write ∷ []

-- The session: the first offer at cycle 1, ticks up to cycle 5, the second offer, and ticks until both are served.
abbrev pub two_requests : List Exchange
two_requests =
    offered (read_by 0) (accepted 0 36)
    ∷ sends first_activate
    ∷ quiet 2 (sends first_read
    ∷ offered second_request (accepted 0 40)
    ∷ quiet 4 (sends second_precharge
    ∷ quiet 2 (sends second_activate
    ∷ quiet 2 (sends second_write
    ∷ []))))

-- How many offers are accepted in an exchange.
abbrev pub taken_in : Event → Answer → ℕ
taken_in (offer q) (accepted number deadline) = 1
taken_in (offer q) (ticked c) = 0
taken_in (offer q) (refused why) = 0
taken_in tick answer = 0

-- How many offers are refused in an exchange.
abbrev pub turned_away_in : Event → Answer → ℕ
turned_away_in (offer q) (accepted number deadline) = 0
turned_away_in (offer q) (ticked c) = 0
turned_away_in (offer q) (refused why) = 1
turned_away_in tick answer = 0

-- How many offers are accepted in a log.
abbrev pub offers_accepted : List Exchange → ℕ
offers_accepted [] = 0
offers_accepted (x ∷ log) = taken_in x.event x.answer + offers_accepted log

-- How many offers are refused in a log.
abbrev pub offers_refused : List Exchange → ℕ
offers_refused [] = 0
offers_refused (x ∷ log) = turned_away_in x.event x.answer + offers_refused log

-- Both counts as a line: 8 digits each, and a line feed.
abbrev pub counts_line : List Exchange → List ℕ
counts_line log = digits 8 (offers_accepted log) ++ (digits 8 (offers_refused log) ++ (10 ∷ []))

-- The session is answered so and in no other way: every chain of its calls sends the five commands and leaves nothing waiting or in service; their lines are the listing's, and the counts are 2 and 0.
pub record TwoRequestListing : Type 0 where
  pub answered : AnsweredOnly (first_board 1000000) two_requests
  pub sent : commands two_requests ≡ listed
  pub always_sent : (log : List Exchange) (n : Machine) → Chain (first_board 1000000) log n → events log ≡ events two_requests → commands log ≡ listed
  pub all_served : (log : List Exchange) (n : Machine) → Chain (first_board 1000000) log n → events log ≡ events two_requests → (n.service ≡ None) × (n.policy.waiting ≡ [])
  pub lines : TextOf listed (codes "00000001100007000000000000\n00000004300007010000000000\n00000009200000000100000000\n0000000C100009000100000000\n0000000F400009000100000000\n")
  pub accepted_two : offers_accepted two_requests ≡ 2
  pub refused_none : offers_refused two_requests ≡ 0
  pub last_line : counts_line two_requests ≡ codes "0000000200000000\n"
