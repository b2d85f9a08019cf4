-- What a call leaves, written out: the machine before it with the parts that change.
use Rattle.std.proofs.Common.{◌≡◌, ℕ, ◌+◌, true, cond, eqb, List, ◌∷◌, Some, None, Option, sym, refl, ap, ◌∙◌}
use Rattle.rulebook.specs.declared.command.Command.{Command}
use Rattle.policy.specs.declared.entry.Request.{Request}
use Rattle.policy.specs.declared.entry.Entry.{Entry}
use Rattle.policy.specs.Meaning.{Meaning, WellShaped, SameShape, Timely, Turned}
use Rattle.machine.specs.Machine.{Service, Machine, Accepted, Ticked, InService, Goes, started, extended}

-- a policy with another clock and other entries
abbrev pub reshaped : Meaning → ℕ → List Entry → Meaning
reshaped p c es = record { requesters = p.requesters; places = p.places; span = p.span; banks = p.banks; reach = p.reach; holds = p.holds; bank_name = p.bank_name; order = p.order; clock = c; waiting = es }

pub is_reshaped : (p n : Meaning) → SameShape p n → n ≡ reshaped p n.clock n.waiting
is_reshaped p n s = λ i. record { requesters = s.requesters_same i; places = s.places_same i; span = s.span_same i; banks = s.banks_same i; reach = s.reach_same i; holds = s.holds_same i; bank_name = s.names_same i; order = s.order_same i; clock = n.clock; waiting = n.waiting }

-- the shape has no part in the clock and the entries
pub still_shaped : (p : Meaning) (c : ℕ) (es : List Entry) → WellShaped p → WellShaped (reshaped p c es)
still_shaped p c es w = record {
  some_requester = w.some_requester;
  few_places = w.few_places;
  no_stranger = w.no_stranger;
  span_bound = w.span_bound;
  bank_bound = w.bank_bound;
  reach_bound = w.reach_bound;
  name_inside = w.name_inside;
  name_apart = w.name_apart;
  turns_hold = w.turns_hold;
}

-- the counts once one more offer of a requester was accepted
abbrev pub counted_in : (ℕ → ℕ) → ℕ → ℕ → ℕ
counted_in counts r s = cond (eqb s r) (counts s + 1) (counts s)

-- a machine with another state of its policy, another service and other counts
abbrev pub changed : Machine → ℕ → List Entry → Option Service → (ℕ → ℕ) → Machine
changed m pc es now counts = record { sheet = m.sheet; chip = m.chip; last = m.last; policy = reshaped m.policy pc es; clock = m.clock; service = now; accepted = counts; trace = m.trace }

-- the machine once an offer was accepted
abbrev pub joined_to : Machine → ℕ → List Entry → Machine
joined_to m r es = changed m m.clock es m.service (counted_in m.accepted r)

pub is_joined : (m : Machine) (q : Request) (number deadline : ℕ) (n : Machine) → Accepted m q number deadline n → n ≡ joined_to m q.requester n.policy.waiting
is_joined m q number deadline n a =
    let p : n.policy ≡ reshaped m.policy m.clock n.policy.waiting =
    is_reshaped m.policy n.policy a.taken.shape ∙ (λ i. reshaped m.policy (a.taken.clock_is i) n.policy.waiting) in
    let rest = a.rest_same in
    λ i. record { sheet = rest.0 i; chip = rest.1 i; last = rest.2 i; policy = p i; clock = rest.3 i; service = rest.4 i; accepted = a.counted i; trace = rest.5 i }

-- the machine inside a tick, once it is known what is in service in its cycle
abbrev pub begun : Machine → ℕ → List Entry → Option Service → Machine
begun m pc es now = changed m pc es now m.accepted

-- and once the command went out
abbrev pub sent : Machine → Option Command → Option Service → Machine
sent m answer then = record { sheet = m.sheet; chip = m.chip; last = m.last; policy = m.policy; clock = m.clock + 1; service = then; accepted = m.accepted; trace = extended m.trace answer }

-- how what is in service in a cycle came there, and what then waits: it was before, or the policy gave nothing, or its first entry
pub data Begins (m : Machine) (es : List Entry) (now : Option Service) : Type 0 where
  running : (s : Service) → m.service ≡ Some s → es ≡ m.policy.waiting → now ≡ Some s → Begins m es now
  idle : m.service ≡ None → es ≡ m.policy.waiting → now ≡ None → Timely m.policy.span m.clock m.policy.waiting → Begins m es now
  given : (e : Entry) → m.service ≡ None → m.policy.waiting ≡ e ∷ es → now ≡ Some (record { entry = e; start = m.clock }) → (m.policy.holds ≡ true → e.deadline + 1 ≡ m.clock + m.policy.span) → Begins m es now

-- the two halves of a tick
pub record Halves (m : Machine) (answer : Option Command) (n : Machine) : Type 0 where
  pub policy_clock : ℕ
  pub entries : List Entry
  pub now : Option Service
  pub begins : Begins m entries now
  pub goes : Goes (begun m policy_clock entries now) now answer n.service
  pub ends : n ≡ sent (begun m policy_clock entries now) answer n.service

-- what goes out does not depend on who waits
goes_on : (m : Machine) (pc : ℕ) (es : List Entry) (now : Option Service) (answer : Option Command) (then : Option Service) → Goes m now answer then → Goes (begun m pc es now) now answer then
goes_on m pc es None None then g = g
goes_on m pc es None (Some c) then g = g
goes_on m pc es (Some s) None then g = g
goes_on m pc es (Some s) (Some c) then g = g

halves_from : (m : Machine) (answer : Option Command) (n : Machine) → (t : Ticked m answer n) → n.policy ≡ reshaped m.policy n.policy.clock n.policy.waiting → Begins m n.policy.waiting t.now_served → Halves m answer n
halves_from m answer n t p b =
    let rest = t.rest_same in
    record {
      policy_clock = n.policy.clock;
      entries = n.policy.waiting;
      now = t.now_served;
      begins = b;
      goes = goes_on m n.policy.clock n.policy.waiting t.now_served answer n.service t.goes;
      ends = λ i. record { sheet = rest.0 i; chip = rest.1 i; last = rest.2 i; policy = p i; clock = t.clock_rises i; service = n.service; accepted = rest.3 i; trace = t.trace_grows i };
    }

asked : (m : Machine) (n : Machine) (now : Option Service) (o : Option Entry) → m.service ≡ None → Turned m.policy m.clock o n.policy → now ≡ started m.clock o →
    (n.policy ≡ reshaped m.policy n.policy.clock n.policy.waiting) × Begins m n.policy.waiting now
asked m n now None free t w = (is_reshaped m.policy n.policy t.0, idle free t.2 w t.3)
asked m n now (Some e) free t w = (is_reshaped m.policy n.policy t.0, given e free t.2 w t.3)

begins_from : (m : Machine) (n : Machine) (now : Option Service) (o : Option Service) → m.service ≡ o → InService m o now n.policy →
    (n.policy ≡ reshaped m.policy n.policy.clock n.policy.waiting) × Begins m n.policy.waiting now
begins_from m n now (Some s) w i = (i.1 ∙ (λ j. reshaped m.policy (sym i.1 j).clock (sym i.1 j).waiting), running s w (ap (λ (p : Meaning). p.waiting) i.1) i.0)
begins_from m n now None w i = asked m n now i.0 w i.1 i.2

pub halves : (m : Machine) (answer : Option Command) (n : Machine) → Ticked m answer n → Halves m answer n
halves m answer n t =
    let b = begins_from m n t.now_served m.service refl t.in_service in
    halves_from m answer n t b.0 b.1
