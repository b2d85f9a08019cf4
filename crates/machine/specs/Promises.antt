-- What every chain of offers and ticks keeps: the promises.
use Rattle.std.specs.Prelude.{◌≡◌, ℕ, ◌+◌, ◌-◌, ◌*◌, ◌/◌, ◌<◌, ◌≤◌, Bool, true, false, cond, ◌&&◌, ◌≢◌, List, [], ◌∷◌, ◌++◌, length, Some, None, filter, Option, ◌==◌}
use Rattle.rulebook.specs.declared.command.Command.{Command}
use Rattle.rulebook.specs.declared.command.Kind.{Kind}
use Rattle.rulebook.specs.declared.command.Kind.TheVariants.{Idle, Activate, Precharge, Read, Write}
use Rattle.rulebook.specs.Book.{Obeys, Column}
use Rattle.policy.specs.declared.entry.Request.{Request}
use Rattle.policy.specs.Meaning.{turn_order}
use Rattle.machine.specs.Machine.{Machine, Event, offer, tick, Answer, accepted, ticked, refused, Exchange, Chain, asked_kind}

-- The command that an answer holds, if it holds one.
abbrev pub issued : Answer → Option Command
issued (accepted number deadline) = None
issued (ticked c) = c
issued (refused why) = None

-- A command, if there is one, before others.
abbrev pub put_before : Option Command → List Command → List Command
put_before None cs = cs
put_before (Some c) cs = c ∷ cs

-- The commands answered in a log, oldest first.
abbrev pub commands : List Exchange → List Command
commands [] = []
commands (x ∷ log) = put_before (issued x.answer) (commands log)

-- How many cycles pass with an answer: one with a tick that is not refused.
abbrev pub passes : Answer → ℕ
passes (accepted number deadline) = 0
passes (ticked c) = 1
passes (refused why) = 0

-- How many cycles have passed in a log.
abbrev pub ticks : List Exchange → ℕ
ticks [] = 0
ticks (x ∷ log) = passes x.answer + ticks log

-- A kind is a read or a write.
abbrev pub is_column : Kind → Bool
is_column Idle = false
is_column Activate = false
is_column Precharge = false
is_column Read = true
is_column Write = true

-- The column commands of a requester, in their order.
abbrev pub columns_of : ℕ → List Command → List Command
columns_of r cs = filter (λ c. is_column c.kind && c.requester == r) cs

-- The column commands of one request, by its requester and number.
abbrev pub columns_for : ℕ → ℕ → List Command → List Command
columns_for r number cs = filter (λ c. is_column c.kind && (c.requester == r && c.number == number)) cs

-- An offer was accepted somewhere in a log, with this number and deadline.
abbrev pub AcceptedIn : List Exchange → Request → ℕ → ℕ → Type 0
AcceptedIn log q number deadline =
    (front back : List Exchange) × (log ≡ front ++ (record { event = offer q; answer = accepted number deadline } ∷ back))

-- All commands answered, in their order, obey the rule book.
abbrev pub WithinTheRules : Machine → Type 0
WithinTheRules m = (log : List Exchange) (n : Machine) → Chain m log n → Obeys m.sheet m.chip (commands log)

-- A command carries the cycle of its tick, and the requester and number of an offer accepted before it; a column command is what that offer asked for, under the policy's name for its bank.
pub record AskedFor (m : Machine) (before : List Exchange) (c : Command) : Type 0 where
  pub in_its_cycle : c.cycle ≡ 1 + ticks before
  pub request : Request
  pub number : ℕ
  pub deadline : ℕ
  pub was_accepted : AcceptedIn before request number deadline
  pub carries : (c.requester ≡ request.requester) × (c.number ≡ number)
  pub as_asked : Column c.kind → (Some c.kind ≡ asked_kind request.kind) × (c.bank ≡ m.policy.bank_name request.bank request.row) × (c.row ≡ request.row) × (c.column ≡ request.column)

-- No command is invented: each one answered was asked for.
abbrev pub AccountedFor : Machine → Type 0
AccountedFor m = (log : List Exchange) (n : Machine) → Chain m log n → (before rest : List Exchange) (e : Event) (c : Command) →
    log ≡ before ++ (record { event = e; answer = ticked (Some c) } ∷ rest) → AskedFor m before c

-- No two accepted offers of one requester have one number, so requester and number name one request.
abbrev pub NumbersApart : Machine → Type 0
NumbersApart m = (log : List Exchange) (n : Machine) → Chain m log n → (front mid back : List Exchange) (q q' : Request) (i i' d d' : ℕ) →
    log ≡ front ++ (record { event = offer q; answer = accepted i d } ∷ mid ++ (record { event = offer q'; answer = accepted i' d' } ∷ back)) →
    q.requester ≡ q'.requester → i ≢ i'

-- No two addresses share a cell: for one row, two banks of the chip have two names.
abbrev pub CellsApart : Machine → Type 0
CellsApart m = (b d r : ℕ) → b < m.chip.banks → d < m.chip.banks → m.policy.bank_name b r ≡ m.policy.bank_name d r → b ≡ d

-- An accepted request never has two column commands, and once its deadline has been ticked it has had one.
abbrev pub ServedOnceInTime : Machine → Type 0
ServedOnceInTime m = (log : List Exchange) (n : Machine) → Chain m log n → (q : Request) (number deadline : ℕ) → AcceptedIn log q number deadline →
    (length (columns_for q.requester number (commands log)) ≤ 1)
    × (deadline < n.clock → length (columns_for q.requester number (commands log)) ≡ 1)

-- A deadline lies within the reach of its offer and within the session, so it can always be ticked.
abbrev pub DeadlinesNear : Machine → Type 0
DeadlinesNear m = (log : List Exchange) (n : Machine) → Chain m log n → (before rest : List Exchange) (q : Request) (number deadline : ℕ) →
    log ≡ before ++ (record { event = offer q; answer = accepted number deadline } ∷ rest) → (deadline ≤ ticks before + m.policy.reach) × (deadline ≤ m.last)

-- Numbers stay small: at most one for each cycle that has passed and nine more, for the one in service and eight places.
abbrev pub NumbersSmall : Machine → Type 0
NumbersSmall m = (log : List Exchange) (n : Machine) → Chain m log n → (r : ℕ) → n.accepted r ≤ ticks log + 9

-- What concerns a requester: every tick, and its own offers.
abbrev pub concerns : ℕ → Event → Bool
concerns r (offer q) = q.requester == r
concerns r tick = true

-- The events of a log without the offers of others.
abbrev pub without_others : ℕ → List Exchange → List Event
without_others r [] = []
without_others r (x ∷ log) = cond (concerns r x.event) (x.event ∷ without_others r log) (without_others r log)

-- An event is an offer of a requester.
abbrev pub is_offer_of : ℕ → Event → Bool
is_offer_of r (offer q) = q.requester == r
is_offer_of r tick = false

-- What a requester is answered to its offers.
abbrev pub answers_to : ℕ → List Exchange → List Answer
answers_to r [] = []
answers_to r (x ∷ log) = cond (is_offer_of r x.event) (x.answer ∷ answers_to r log) (answers_to r log)

-- Under turn order a requester's answers and column commands do not depend on the offers of others: two chains alike in ticks and its own offers give it the same.
abbrev pub ApartFromOthers : Machine → Type 0
ApartFromOthers m = m.policy.order ≡ turn_order → (r : ℕ) (log log' : List Exchange) (n n' : Machine) → Chain m log n → Chain m log' n' →
    without_others r log ≡ without_others r log' →
    (answers_to r log ≡ answers_to r log') × (columns_of r (commands log) ≡ columns_of r (commands log'))

-- The frame that a command falls into: a frame is one slot of a span for each requester.
abbrev pub frame_of : Machine → Command → ℕ
frame_of m c = (c.cycle - 1) / (m.policy.requesters * m.policy.span)

-- Under turn order no two column commands of one requester fall into one frame.
abbrev pub OneAFrame : Machine → Type 0
OneAFrame m = m.policy.order ≡ turn_order → (r : ℕ) (log : List Exchange) (n : Machine) → Chain m log n →
    (front mid back : List Command) (c d : Command) → columns_of r (commands log) ≡ front ++ (c ∷ mid ++ (d ∷ back)) → frame_of m c ≢ frame_of m d

-- The promises together.
pub record KeepsItsPromises (m : Machine) : Type 0 where
  pub within_the_rules : WithinTheRules m
  pub accounted_for : AccountedFor m
  pub numbers_apart : NumbersApart m
  pub cells_apart : CellsApart m
  pub served_once_in_time : ServedOnceInTime m
  pub apart_from_others : ApartFromOthers m
  pub one_a_frame : OneAFrame m
