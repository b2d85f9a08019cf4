-- The machine: what an offer and a tick answer, what they leave, and chains of such calls.
use Rattle.std.specs.Prelude.{◌≡◌, ℕ, ◌+◌, ◌-◌, ◌<◌, ◌≤◌, Bool, true, cond, ◌||◌, List, [], ◌∷◌, ◌++◌, length, Some, None, Option, ◌==◌, nat_le, nat_lt}
use Rattle.sheet.specs.declared.accepted.Sheet.{Sheet}
use Rattle.sheet.specs.declared.geometry.Chip.{Chip}
use Rattle.rulebook.specs.declared.command.Command.{Command}
use Rattle.rulebook.specs.declared.command.Kind.{Kind}
use Rattle.rulebook.specs.declared.command.Kind.TheVariants.{Idle, Activate, Precharge, Read, Write}
use Rattle.rulebook.specs.Book.{Obeys, Column, open_row}
use Rattle.policy.specs.declared.entry.Request.{Request}
use Rattle.policy.specs.declared.entry.Entry.{Entry}
use Rattle.policy.specs.Meaning.{Meaning, Taken, Turned, own}

-- A request in service, and the cycle in which the policy gave it.
pub record Service : Type 0 where
  pub entry : Entry
  pub start : ℕ

-- What decides every answer: the sheet, the chip, the last cycle that can be ticked, the policy, the next cycle to be ticked, the request in service, how many offers of each requester were accepted, and every command sent so far, oldest first.
pub record Machine : Type 0 where
  pub sheet : Sheet
  pub chip : Chip
  pub last : ℕ
  pub policy : Meaning
  pub clock : ℕ
  pub service : Option Service
  pub accepted : ℕ → ℕ
  pub trace : List Command

-- The machine as it opens: the clock at 1, nothing in service, nothing accepted, nothing sent.
abbrev pub opened : Sheet → Chip → ℕ → Meaning → Machine
opened sheet chip last policy = record { sheet = sheet; chip = chip; last = last; policy = policy; clock = 1; service = None; accepted = λ _. 0; trace = [] }

-- The cycle from which the spans of the waiting entries are counted: the one before the clock, or the last one that the service may take.
abbrev pub base_at : ℕ → ℕ → Option Service → ℕ
base_at clock span None = clock - 1
base_at clock span (Some s) = (s.start + span) - 1

-- That cycle of a machine.
abbrev pub base : Machine → ℕ
base m = base_at m.clock m.policy.span m.service

-- What a request can ask for: 3 is a read and 4 is a write.
abbrev pub asked_kind : ℕ → Option Kind
asked_kind k = cond (k == 3) (Some Read) (cond (k == 4) (Some Write) None)

-- A request that asks for this kind, if for any, asks for no read or write or lies outside the chip.
abbrev pub improper_as : Option Kind → Chip → Request → Bool
improper_as None k q = true
improper_as (Some _) k q = nat_le k.banks q.bank || (nat_le k.rows q.row || nat_le k.columns q.column)

-- A request asks for no read or write, or lies outside the chip.
abbrev pub improper : Chip → Request → Bool
improper k q = improper_as (asked_kind q.kind) k q

-- Why an offer is refused, the first reason that holds: 10, no such requester; 11, no proper request; 12, its deadline could lie past the last cycle; 13, all places of its requester are waiting.
abbrev pub offer_refusal : Machine → Request → Option ℕ
offer_refusal m q =
    cond (nat_le m.policy.requesters q.requester) (Some 10)
    (cond (improper m.chip q) (Some 11)
    (cond (nat_lt m.last ((m.clock - 1) + m.policy.reach)) (Some 12)
    (cond (nat_le (m.policy.places q.requester) (length (own q.requester m.policy.waiting))) (Some 13) None)))

-- A request as it waits: its number, what it asks for, the policy's name for its bank, and its deadline.
abbrev pub entry_for : Meaning → Request → ℕ → Kind → ℕ → Entry
entry_for p q number kind deadline = record { requester = q.requester; number = number; kind = kind; bank = p.bank_name q.bank q.row; row = q.row; column = q.column; deadline = deadline }

-- An offer is accepted, so that m becomes n: no reason stands against it, its number is how many of its requester were accepted before it, the policy takes it in, and nothing else changes.
pub record Accepted (m : Machine) (q : Request) (number deadline : ℕ) (n : Machine) : Type 0 where
  pub no_reason : offer_refusal m q ≡ None
  pub number_is : number ≡ m.accepted q.requester
  pub kind : Kind
  pub kind_is : asked_kind q.kind ≡ Some kind
  pub taken : Taken m.policy m.clock (base m) (entry_for m.policy q number kind deadline) n.policy
  pub counted : n.accepted ≡ (λ r. cond (r == q.requester) (m.accepted r + 1) (m.accepted r))
  pub rest_same : (n.sheet ≡ m.sheet) × (n.chip ≡ m.chip) × (n.last ≡ m.last) × (n.clock ≡ m.clock) × (n.service ≡ m.service) × (n.trace ≡ m.trace)

-- The activate of a request's row in a cycle. Each command of a request carries its requester and number.
abbrev pub activate_for : ℕ → Entry → Command
activate_for clock e = record { cycle = clock; kind = Activate; bank = e.bank; row = e.row; column = 0; requester = e.requester; number = e.number }

-- The precharge of its bank.
abbrev pub precharge_for : ℕ → Entry → Command
precharge_for clock e = record { cycle = clock; kind = Precharge; bank = e.bank; row = 0; column = 0; requester = e.requester; number = e.number }

-- Its column command: the read or write that it asks for.
abbrev pub column_for : ℕ → Entry → Command
column_for clock e = record { cycle = clock; kind = e.kind; bank = e.bank; row = e.row; column = e.column; requester = e.requester; number = e.number }

-- What a request does next: where its bank is closed, activate; open at its row, the column command; open at another row, precharge.
abbrev pub next_from : Option ℕ → ℕ → Entry → Command
next_from None clock e = activate_for clock e
next_from (Some row) clock e = cond (row == e.row) (column_for clock e) (precharge_for clock e)

-- What a request does next after the commands that a machine has sent.
abbrev pub next_command : Machine → Entry → Command
next_command m e = next_from (open_row e.bank m.trace) m.clock e

-- It may go out in this cycle: the trace with it obeys the rule book, and a column command that is held goes out at its deadline only.
abbrev pub Ready : Machine → Entry → Type 0
Ready m e =
    Obeys m.sheet m.chip (m.trace ++ (next_command m e ∷ []))
    × (m.policy.holds ≡ true → Column (next_command m e).kind → m.clock ≡ e.deadline)

-- What stays in service once a command went out: a column command ends the service.
abbrev pub stays_after : Kind → Service → Option Service
stays_after Idle s = Some s
stays_after Activate s = Some s
stays_after Precharge s = Some s
stays_after Read s = None
stays_after Write s = None

-- What goes out for what is in service, and what then stays in service: the next command where it is ready, and none where it is not or nothing is in service.
abbrev pub Goes : Machine → Option Service → Option Command → Option Service → Type 0
Goes m None (Some c) then = ⊥
Goes m None None then = then ≡ None
Goes m (Some s) (Some c) then = (c ≡ next_command m s.entry) × Ready m s.entry × (then ≡ stays_after c.kind s)
Goes m (Some s) None then = (Ready m s.entry → ⊥) × (then ≡ Some s)

-- What the policy gave goes into service in this cycle.
abbrev pub started : ℕ → Option Entry → Option Service
started c None = None
started c (Some e) = Some (record { entry = e; start = c })

-- What is in service in this cycle: with nothing in service the policy is asked.
abbrev pub InService : Machine → Option Service → Option Service → Meaning → Type 0
InService m (Some s) now_served after = (now_served ≡ Some s) × (after ≡ m.policy)
InService m None now_served after = (given : Option Entry) × Turned m.policy m.clock given after × (now_served ≡ started m.clock given)

-- A trace with the command of one more cycle, if there is one.
abbrev pub extended : List Command → Option Command → List Command
extended h None = h
extended h (Some c) = h ++ (c ∷ [])

-- A tick answers this command or none, so that m becomes n: a cycle is left, what is in service sends what is ready, the clock rises by one, and nothing else changes.
pub record Ticked (m : Machine) (answer : Option Command) (n : Machine) : Type 0 where
  pub running : m.clock ≤ m.last
  pub now_served : Option Service
  pub in_service : InService m m.service now_served n.policy
  pub goes : Goes m now_served answer n.service
  pub clock_rises : n.clock ≡ m.clock + 1
  pub trace_grows : n.trace ≡ extended m.trace answer
  pub rest_same : (n.sheet ≡ m.sheet) × (n.chip ≡ m.chip) × (n.last ≡ m.last) × (n.accepted ≡ m.accepted)

-- What is called.
pub data Event : Type 0 where
  offer : Request → Event
  tick : Event

-- What is answered: to an offer its number and deadline, to a tick the command of its cycle or none; or a refusal by its number.
pub data Answer : Type 0 where
  accepted : ℕ → ℕ → Answer
  ticked : Option Command → Answer
  refused : ℕ → Answer

-- One call: an event, its answer, and the machine that it leaves. A refusal leaves the machine as it was; a tick is refused by 14, past the last cycle.
abbrev pub Step : Machine → Event → Answer → Machine → Type 0
Step m (offer q) (accepted number deadline) n = Accepted m q number deadline n
Step m (offer q) (refused why) n = (offer_refusal m q ≡ Some why) × (n ≡ m)
Step m (offer q) (ticked c) n = ⊥
Step m tick (ticked c) n = Ticked m c n
Step m tick (refused why) n = (m.last < m.clock) × (why ≡ 14) × (n ≡ m)
Step m tick (accepted number deadline) n = ⊥

-- An event with its answer.
pub record Exchange : Type 0 where
  pub event : Event
  pub answer : Answer

-- A chain of calls, oldest first, from one machine to another: each is answered on what the one before left.
abbrev pub Chain : Machine → List Exchange → Machine → Type 0
Chain m [] n = m ≡ n
Chain m (x ∷ log) n = (k : Machine) × Step m x.event x.answer k × Chain k log n
