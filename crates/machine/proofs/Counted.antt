-- How many requests of a requester were accepted: those served, the one in service and those that wait; so there are few more than cycles.
use Rattle.std.proofs.Common.{◌≡◌, ℕ, ◌+◌, ◌<◌, ◌≤◌, Bool, true, false, cond, ◌&&◌, eqb, List, [], ◌∷◌, ◌++◌, length, Some, None, Option, sym, ap, ◌∙◌, subst, inl, inr, arith}
use Rattle.std.proofs.lemmas.List.{length-append}
use Rattle.std.proofs.lemmas.Bool.{eq-eqb, ne_eqb, cases_eq, cases_lt, cond-true, cond-false}
use Rattle.rulebook.specs.declared.command.Command.{Command}
use Rattle.rulebook.specs.Book.{open_row}
use Rattle.policy.specs.declared.entry.Request.{Request}
use Rattle.policy.specs.declared.entry.Entry.{Entry}
use Rattle.policy.specs.Meaning.{Meaning, WellShaped, own}
use Rattle.machine.specs.Machine.{Service, Machine, opened, entry_for, Accepted, Goes, extended, Event, offer, tick, Answer, accepted, ticked, refused, Step, Exchange, Chain}
use Rattle.machine.specs.Promises.{is_column, columns_of, NumbersSmall}
use Rattle.machine.specs.Opens.{WheneverOpened}
use Rattle.machine.proofs.Lists.{kept_one, kept_joined, kept_last, fewer_kept}
use Rattle.machine.proofs.Steps.{is_joined, counted_in, joined_to, begun, Begins, running, idle, given, Halves, halves}
use Rattle.machine.proofs.Running.{unserved_of, unserved}
use Rattle.machine.proofs.Logged.{logged}
use Rattle.machine.proofs.Sending.{same_unserved, next_names}
use Rattle.machine.proofs.Ledger.{unserved_more, left_or_sent}

-- the counts, the places and the cycles of a machine
pub record Tallied (m : Machine) : Type 0 where
  pub total : (r : ℕ) → m.accepted r ≡ length (own r (unserved m)) + length (columns_of r m.trace)
  pub few : (r : ℕ) → length (own r m.policy.waiting) ≤ m.policy.places r
  pub sparse : length m.trace + 1 ≤ m.clock

-- the count of the requester rises with it
count_one : (counts : ℕ → ℕ) (q r : ℕ) → counted_in counts q r ≡ counts r + cond (eqb q r) 1 0
count_one counts q r = elim (cases_eq q r) [
  | inl e ↦ cond-true (eqb r q) (counts r + 1) (counts r) (eq-eqb r q (sym e)) ∙ sym (ap (λ (b : Bool). counts r + cond b 1 0) (eq-eqb q r e))
  | inr u ↦ cond-false (eqb r q) (counts r + 1) (counts r) (ne_eqb r q (λ e. u (sym e))) ∙ sym (ap (λ (b : Bool). counts r + cond b 1 0) (ne_eqb q r u) ∙ omega arith)
]

places_kept : (m : Machine) (q : Request) (number deadline : ℕ) (n : Machine) (a : Accepted m q number deadline n) → ((r : ℕ) → length (own r m.policy.waiting) ≤ m.policy.places r) → (r : ℕ) → length (own r n.policy.waiting) ≤ m.policy.places r
places_kept m q number deadline n a few r =
    let j = a.taken.joins in
    let e : Entry = entry_for m.policy q number a.kind deadline in
    let grown : length (own r n.policy.waiting) ≡ length (own r m.policy.waiting) + cond (eqb q.requester r) 1 0 =
    ap (λ (xs : List Entry). length (own r xs)) j.3 ∙ kept_joined (λ (x : Entry). eqb x.requester r) j.0 e j.1 ∙ ap (λ (xs : List Entry). length (own r xs) + cond (eqb q.requester r) 1 0) (sym j.2) in
    elim (cases_eq q.requester r) [
      | inl i ↦
          let room : length (own r m.policy.waiting) < m.policy.places r = subst (λ (x : ℕ). length (own x m.policy.waiting) < m.policy.places x) i a.taken.room in
          omega (arith, cond-true {A = ℕ} (eqb q.requester r) 1 0 (eq-eqb q.requester r i))
      | inr u ↦ omega (arith, few r, cond-false {A = ℕ} (eqb q.requester r) 1 0 (ne_eqb q.requester r u))
    ]

joined_tallied : (m : Machine) (q : Request) (number deadline : ℕ) (n : Machine) → Accepted m q number deadline n → Tallied m → Tallied (joined_to m q.requester n.policy.waiting)
joined_tallied m q number deadline n a t =
    let j = a.taken.joins in
    let e : Entry = entry_for m.policy q number a.kind deadline in
    record {
      total = λ r.
          let grown : length (own r (unserved_of m.service n.policy.waiting)) ≡ length (own r (unserved m)) + cond (eqb q.requester r) 1 0 =
          ap (λ (xs : List Entry). length (own r (unserved_of m.service xs))) j.3 ∙ unserved_more (λ (x : Entry). eqb x.requester r) m.service j.0 e j.1 ∙ ap (λ (xs : List Entry). length (own r (unserved_of m.service xs)) + cond (eqb q.requester r) 1 0) (sym j.2) in
          count_one m.accepted q.requester r ∙ omega (arith, t.total r);
      few = places_kept m q number deadline n a t.few;
      sparse = t.sparse;
    }

-- what goes out moves from the unserved to the served
total_goes : (r : ℕ) (m : Machine) (now : Option Service) (es : List Entry) (answer : Option Command) (then : Option Service) → Goes m now answer then →
    length (own r (unserved_of then es)) + length (columns_of r (extended m.trace answer)) ≡ length (own r (unserved_of now es)) + length (columns_of r m.trace)
total_goes r m None es None then g = ap (λ (o : Option Service). length (own r (unserved_of o es)) + length (columns_of r m.trace)) g
total_goes r m None es (Some c) then g = absurd g
total_goes r m (Some s) es None then g = ap (λ (o : Option Service). length (own r (unserved_of o es)) + length (columns_of r m.trace)) g.1
total_goes r m (Some s) es (Some c) then g =
    let whose : c.requester ≡ s.entry.requester = ap (λ (d : Command). d.requester) g.0 ∙ (next_names (open_row s.entry.bank m.trace) m.clock s.entry).0 in
    let name : cond {A = ℕ} (is_column c.kind && eqb c.requester r) 1 0 ≡ cond (is_column c.kind && eqb s.entry.requester r) 1 0 = ap (λ (x : ℕ). cond {A = ℕ} (is_column c.kind && eqb x r) 1 0) whose in
    ap (λ (o : Option Service). length (own r (unserved_of o es)) + length (columns_of r (m.trace ++ (c ∷ [])))) g.2
    ∙ omega (arith, kept_last (λ (d : Command). is_column d.kind && eqb d.requester r) m.trace c, left_or_sent (λ (e : Entry). eqb e.requester r) c.kind s es)

longer_by_one : (h : List Command) (answer : Option Command) → length (extended h answer) ≤ length h + 1
longer_by_one h None = omega arith
longer_by_one h (Some c) = omega (arith, length-append h (c ∷ []))

-- nobody has more waiting once a turn was taken
turn_few : (m : Machine) (es : List Entry) (now : Option Service) (r : ℕ) → Begins m es now → length (own r es) ≤ length (own r m.policy.waiting)
turn_few m es now r (running s v w is) = omega (arith, ap (λ (xs : List Entry). length (own r xs)) w)
turn_few m es now r (idle v w is late) = omega (arith, ap (λ (xs : List Entry). length (own r xs)) w)
turn_few m es now r (given e v w is on) = omega (arith, ap (λ (xs : List Entry). length (own r xs)) w, kept_one (eqb e.requester r) e (own r es))

ticked_tallied : (m : Machine) (answer : Option Command) (n : Machine) → Halves m answer n → Tallied m → Tallied n
ticked_tallied m answer n h t =
    let k : Machine = begun m h.policy_clock h.entries h.now in
    subst Tallied (sym h.ends) (record {
      total = λ r. t.total r
          ∙ ap (λ (xs : List Entry). length (own r xs) + length (columns_of r m.trace)) (sym (same_unserved m h.entries h.now h.begins))
          ∙ sym (total_goes r k h.now h.entries answer n.service h.goes);
      few = λ r. omega (arith, t.few r, turn_few m h.entries h.now r h.begins);
      sparse = omega (arith, t.sparse, longer_by_one m.trace answer);
    })

tallied_step : (m : Machine) (e : Event) (a : Answer) (n : Machine) → Tallied m → Step m e a n → Tallied n
tallied_step m (offer q) (accepted number deadline) n t s = subst Tallied (sym (is_joined m q number deadline n s)) (joined_tallied m q number deadline n s t)
tallied_step m (offer q) (refused why) n t s = subst Tallied (sym s.1) t
tallied_step m (offer q) (ticked c) n t s = absurd s
tallied_step m tick (ticked c) n t s = ticked_tallied m c n (halves m c n s) t
tallied_step m tick (refused why) n t s = subst Tallied (sym s.2) t
tallied_step m tick (accepted number deadline) n t s = absurd s

pub tallied : (m : Machine) (log : List Exchange) (n : Machine) → Tallied m → Chain m log n → Tallied n
tallied m [] n t c = subst Tallied c t
tallied m (x ∷ log) n t c = tallied c.0 log n (tallied_step m x.event x.answer c.0 t c.1) c.2

-- a service holds one
one_served : (r : ℕ) (o : Option Service) (es : List Entry) → length (own r (unserved_of o es)) ≤ length (own r es) + 1
one_served r None es = omega arith
one_served r (Some s) es = elim (eqb s.entry.requester r) as (λ b. length (cond b (s.entry ∷ own r es) (own r es)) ≤ length (own r es) + 1) [ true ↦ omega arith | false ↦ omega arith ]

eight_places : (p : Meaning) (r : ℕ) → WellShaped p → p.places r ≤ 8
eight_places p r w = elim (cases_lt r p.requesters) [ inl l ↦ omega (arith, w.few_places r l) | inr l ↦ omega (arith, w.no_stranger r l) ]

pub numbers_small : WheneverOpened NumbersSmall
numbers_small s k last p f log n c r =
    let none : (q : ℕ) → length (own q p.waiting) ≡ 0 = λ q. ap (λ (es : List Entry). length (own q es)) f.nothing_waits in
    let t = tallied (opened s k last p) log n (record { total = λ q. omega (arith, none q); few = λ q. omega (arith, none q); sparse = omega arith }) c in
    let l = logged s k last p f log n c in
    omega (arith, t.total r, t.few r, t.sparse, l.told.clock_is, one_served r n.service n.policy.waiting, fewer_kept (λ (d : Command). is_column d.kind && eqb d.requester r) n.trace, eight_places n.policy r l.runs.0.shaped)
