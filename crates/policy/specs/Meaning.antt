-- What a policy means, and what its two calls do to that meaning.
use Rattle.std.specs.Prelude.{◌≡◌, ℕ, ◌+◌, ◌-◌, ◌*◌, ◌/◌, ◌%◌, ◌<◌, ◌≤◌, Bool, true, cond, List, [], ◌∷◌, ◌++◌, length, Some, None, filter, Option, nat_eq, nat_lt}
use Rattle.std.specs.List.{insert}
use Rattle.policy.specs.declared.entry.Entry.{Entry}

-- The order in which entries are served, where a layer hands it on and a promise rests on it: none in particular, first come, or turn order.
pub data Order : Type 0 where
  free first_come turn_order : Order

-- What a policy keeps for good: how many requesters it has, the places of each, the longest service, the banks, how far a deadline lies ahead at most, whether a column command is held until its deadline, the name of each bank and row, and the order. What changes: its latest clock, and the entries that wait, in order of service.
pub record Meaning : Type 0 where
  pub requesters : ℕ
  pub places : ℕ → ℕ
  pub span : ℕ
  pub banks : ℕ
  pub reach : ℕ
  pub holds : Bool
  pub bank_name : ℕ → ℕ → ℕ
  pub order : Order
  pub clock : ℕ
  pub waiting : List Entry

-- What is kept for good is within its limits. Only requesters have places. Names are below the bank count, and for one row no two banks have one name. Turn order holds.
pub record WellShaped (m : Meaning) : Type 0 where
  pub some_requester : (1 ≤ m.requesters) × (m.requesters ≤ 16)
  pub few_places : (r : ℕ) → r < m.requesters → (1 ≤ m.places r) × (m.places r ≤ 8)
  pub no_stranger : (r : ℕ) → m.requesters ≤ r → m.places r ≡ 0
  pub span_bound : (7 ≤ m.span) × (m.span ≤ 1785)
  pub bank_bound : (1 ≤ m.banks) × (m.banks ≤ 16)
  pub reach_bound : m.reach ≤ 129 * m.span
  pub name_inside : (b r : ℕ) → b < m.banks → m.bank_name b r < m.banks
  pub name_apart : (b d r : ℕ) → b < m.banks → d < m.banks → m.bank_name b r ≡ m.bank_name d r → b ≡ d
  pub turns_hold : m.order ≡ turn_order → m.holds ≡ true

-- What no call changes.
pub record SameShape (m n : Meaning) : Type 0 where
  pub requesters_same : n.requesters ≡ m.requesters
  pub places_same : n.places ≡ m.places
  pub span_same : n.span ≡ m.span
  pub banks_same : n.banks ≡ m.banks
  pub reach_same : n.reach ≡ m.reach
  pub holds_same : n.holds ≡ m.holds
  pub names_same : n.bank_name ≡ m.bank_name
  pub order_same : n.order ≡ m.order

-- Place j, from 0, has a deadline of at least base + (j + 1) spans.
abbrev pub Timely : ℕ → ℕ → List Entry → Type 0
Timely span base [] = Unit {0}
Timely span base (e ∷ es) = (base + span ≤ e.deadline) × Timely span (base + span) es

-- A requester's own entries, in their order.
abbrev pub own : ℕ → List Entry → List Entry
own r es = filter (λ e. nat_eq e.requester r) es

-- The entries whose deadlines come before this one.
abbrev pub due_before : ℕ → List Entry → List Entry
due_before deadline es = filter (λ e. nat_lt e.deadline deadline) es

-- The places of requester r, where each of n requesters has q and no other has one.
abbrev pub places_of : ℕ → ℕ → ℕ → ℕ
places_of n q r = cond (nat_lt r n) q 0

-- The first slot that starts at cycle c or later, where slot k starts at k × span + 1.
abbrev pub next_slot : ℕ → ℕ → ℕ
next_slot span c = ((c - 1) + (span - 1)) / span

-- The first slot from slot k on that belongs to requester r of n, where slot k belongs to requester k mod n.
abbrev pub own_slot : ℕ → ℕ → ℕ → ℕ
own_slot n r k = k + ((n + r - (k % n)) % n)

-- The first slot of requester r of n that starts at cycle c or later.
abbrev pub first_own_slot : ℕ → ℕ → ℕ → ℕ → ℕ
first_own_slot span n r c = own_slot n r (next_slot span c)

-- The last cycle of slot k.
abbrev pub slot_end : ℕ → ℕ → ℕ
slot_end span k = (k + 1) * span

-- What the order says of an entry that joins at clock c and this base. First come: at the end, one span later for each entry before it. Turn order: after the entries that are due before it, by the end of the slot that follows those of its requester's waiting entries.
abbrev pub JoinsBy : Order → Meaning → ℕ → ℕ → Entry → Meaning → Type 0
JoinsBy free m c base e n = Unit {0}
JoinsBy first_come m c base e n =
    (n.waiting ≡ m.waiting ++ (e ∷ [])) × (e.deadline ≡ base + m.span * (length m.waiting + 1))
JoinsBy turn_order m c base e n =
    (n.waiting ≡ insert m.waiting (length (due_before e.deadline m.waiting)) e)
    × (e.deadline ≡ slot_end m.span (first_own_slot m.span m.requesters e.requester c + length (own e.requester m.waiting) * m.requesters))

-- What the order says of a turn that gives nothing: under first come, nothing waits.
abbrev pub IdleBy : Order → Meaning → Type 0
IdleBy free m = Unit {0}
IdleBy first_come m = m.waiting ≡ []
IdleBy turn_order m = Unit {0}

-- A request as it waits: under the policy's name for its bank, with its deadline.
abbrev pub as_waiting : Meaning → Entry → ℕ → Entry
as_waiting m e d = record { requester = e.requester; number = e.number; kind = e.kind; bank = m.bank_name e.bank e.row; row = e.row; column = e.column; deadline = d }

-- The requester has a place left.
abbrev pub HasPlace : Meaning → ℕ → Type 0
HasPlace m r = length (own r m.waiting) < m.places r

-- All places of the requester are taken by entries that wait.
abbrev pub Full : Meaning → ℕ → Type 0
Full m r = m.places r ≤ length (own r m.waiting)

-- An offer at clock c and this base is taken, so that m becomes n: there was room, one entry joins, the others stay in their order, and deadlines leave room for those before.
pub record Taken (m : Meaning) (c base : ℕ) (e : Entry) (n : Meaning) : Type 0 where
  pub shape : SameShape m n
  pub room : HasPlace m e.requester
  pub joins : (front back : List Entry) × (m.waiting ≡ front ++ back) × (n.waiting ≡ front ++ (e ∷ back))
  pub within_reach : e.deadline + 1 ≤ c + m.reach
  pub timely : Timely m.span base n.waiting
  pub clock_is : n.clock ≡ c
  pub by_order : JoinsBy m.order m c base e n

-- Asked for a turn at clock c with nothing in service, it gives its first entry, at deadline - span + 1 if it holds; or it gives none, where each entry has a span more than it needs.
abbrev pub Turned : Meaning → ℕ → Option Entry → Meaning → Type 0
Turned m c None n =
    SameShape m n × (n.clock ≡ c) × (n.waiting ≡ m.waiting) × Timely m.span c m.waiting × IdleBy m.order m
Turned m c (Some e) n =
    SameShape m n × (n.clock ≡ c) × (m.waiting ≡ e ∷ n.waiting) × (m.holds ≡ true → e.deadline + 1 ≡ c + m.span)

-- The base that holds after a turn at clock c.
abbrev pub base_after : ℕ → ℕ → Option Entry → ℕ
base_after span c None = c
base_after span c (Some e) = (c + span) - 1
