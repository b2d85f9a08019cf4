-- Under turn order: deadlines lie at the ends of slots, each requester's at those of its own, and column commands go out there.
use Rattle.std.proofs.Common.{◌≡◌, ℕ, ◌+◌, ◌-◌, ◌*◌, ◌%◌, ◌<◌, ◌≤◌, true, false, cond, eqb, ◌⊎◌, List, [], ◌∷◌, length, Some, None, Option, sym, refl, ap, ◌∙◌, subst, inl, inr, arith}
use Rattle.std.specs.List.{insert, AllByRecursion, slice_get}
use Rattle.std.proofs.lemmas.Bool.{ne_eqb}
use Rattle.sheet.specs.declared.accepted.Sheet.{Sheet}
use Rattle.sheet.specs.declared.geometry.Chip.{Chip}
use Rattle.rulebook.specs.declared.command.Command.{Command}
use Rattle.rulebook.specs.declared.command.Kind.{Kind}
use Rattle.rulebook.specs.declared.command.Kind.TheVariants.{Idle, Activate, Precharge, Read, Write}
use Rattle.rulebook.specs.Book.{Every, Column, open_row}
use Rattle.rulebook.proofs.Lists.{every_last}
use Rattle.policy.specs.declared.entry.Request.{Request}
use Rattle.policy.specs.declared.entry.Entry.{Entry}
use Rattle.policy.specs.Meaning.{Meaning, Order, turn_order, Timely, own, due_before, places_of, own_slot, first_own_slot, slot_end, JoinsBy}
use Rattle.policy.specs.Turns.{TurnSound, starts_now}
use Rattle.policy.specs.Slots.{next_slot_is, own_slot_of, own_later}
use Rattle.policy.specs.Ordered.{places_inside}
use Rattle.policy.specs.Rooms.{still_few, all_inside}
use Rattle.policy.specs.Passing.{turn_given, turn_idle}
use Rattle.policy.specs.TurnLaws.{turn_shortened, turn_fresh}
use Rattle.policy.specs.Joining.{turn_joined}
use Rattle.machine.specs.Machine.{Service, Machine, opened, base_at, base, Accepted, Goes, Ready, next_from, next_command, column_for, stays_after, entry_for}
use Rattle.machine.specs.Opens.{Fits}
use Rattle.machine.proofs.Steps.{joined_to, begun, sent, Begins, running, idle, given, Halves}
use Rattle.machine.proofs.Offers.{acceptable}
use Rattle.machine.proofs.Running.{unserved_of, unserved, Running, all_unserved_joined, begins_runs}
use Rattle.machine.proofs.Serving.{all_left, stage_of, within_span, nothing_goes}
use Rattle.machine.proofs.Sending.{same_unserved}
use Rattle.machine.proofs.Kept.{next_asks}

-- a cycle ends a slot of requester r of n
abbrev pub EndsOwn : ℕ → ℕ → ℕ → ℕ → Type 0
EndsOwn span n r cycle = (f : ℕ) × (f % n ≡ r) × (cycle ≡ slot_end span f)

abbrev pub Owned : ℕ → ℕ → Entry → Type 0
Owned span n e = EndsOwn span n e.requester e.deadline

-- a column command lies at the end of a slot of its requester
abbrev pub InSlot : ℕ → ℕ → Command → Type 0
InSlot span n c = Column c.kind → EndsOwn span n c.requester c.cycle

pub record Turning (m : Machine) : Type 0 where
  pub in_turn : m.policy.order ≡ turn_order
  pub sound : TurnSound m.policy.span m.policy.requesters m.clock (base m) m.policy.waiting
  pub few : (r : ℕ) → length (own r m.policy.waiting) ≤ places_of m.policy.requesters 8 r
  pub owned : AllByRecursion (Owned m.policy.span m.policy.requesters) (unserved m)
  pub columns : Every (InSlot m.policy.span m.policy.requesters) m.trace

pub opened_turns : (s : Sheet) (k : Chip) (last : ℕ) (p : Meaning) → Fits s k last p → p.order ≡ turn_order → Turning (opened s k last p)
opened_turns s k last p f o = record {
  in_turn = o;
  sound = subst (λ (es : List Entry). TurnSound p.span p.requesters 1 0 es) (sym f.nothing_waits) (turn_fresh p.span p.requesters (omega (arith, f.shaped.span_bound)));
  few = λ r. subst (λ (es : List Entry). length (own r es) ≤ places_of p.requesters 8 r) (sym f.nothing_waits) (omega arith);
  owned = subst (λ (es : List Entry). AllByRecursion (Owned p.span p.requesters) es) (sym f.nothing_waits) tt;
  columns = tt;
}

-- what the order says of an entry that joins
pub joins_in_turn : (m : Machine) (q : Request) (number deadline : ℕ) (n : Machine) (a : Accepted m q number deadline n) → m.policy.order ≡ turn_order →
    (n.policy.waiting ≡ insert m.policy.waiting (length (due_before deadline m.policy.waiting)) (entry_for m.policy q number a.kind deadline))
    × (deadline ≡ slot_end m.policy.span (first_own_slot m.policy.span m.policy.requesters q.requester m.clock + length (own q.requester m.policy.waiting) * m.policy.requesters))
joins_in_turn m q number deadline n a o = subst (λ (x : Order). JoinsBy x m.policy m.clock (base m) (entry_for m.policy q number a.kind deadline) n.policy) o a.taken.by_order

-- the deadline ends the slot that follows those of the requester's waiting entries
pub in_own_slot : (m : Machine) (q : Request) (number deadline : ℕ) (n : Machine) → Accepted m q number deadline n → Running m → (t : Turning m) →
    deadline ≡ slot_end m.policy.span (own_slot m.policy.requesters q.requester t.sound.next + length (own q.requester m.policy.waiting) * m.policy.requesters)
in_own_slot m q number deadline n a r t =
    let w = m.policy.span in
    (joins_in_turn m q number deadline n a t.in_turn).1
    ∙ ap (λ (x : ℕ). slot_end w (own_slot m.policy.requesters q.requester x + length (own q.requester m.policy.waiting) * m.policy.requesters))
    (next_slot_is w m.clock t.sound.next (omega (arith, r.shaped.span_bound)) t.sound.started t.sound.next_late t.sound.next_soon)

pub accepted_turns : (m : Machine) (q : Request) (number deadline : ℕ) (n : Machine) → Accepted m q number deadline n → Running m → Turning m → Turning (joined_to m q.requester n.policy.waiting)
accepted_turns m q number deadline n a r t =
    let p = m.policy in
    let w = m.policy.span in
    let es = m.policy.waiting in
    let e : Entry = entry_for m.policy q number a.kind deadline in
    let j = joins_in_turn m q number deadline n a t.in_turn in
    let ok = acceptable m q a.no_reason in
    let some : 1 ≤ w = omega (arith, r.shaped.span_bound) in
    let ends = in_own_slot m q number deadline n a r t in
    let room : length (own q.requester es) < places_of p.requesters 8 q.requester = omega (arith, ok.room, r.shaped.few_places q.requester ok.known, places_inside p.requesters 8 q.requester ok.known) in
    record {
      in_turn = t.in_turn;
      sound = subst (λ (xs : List Entry). TurnSound w p.requesters m.clock (base m) xs) (sym j.0) (turn_joined w p.requesters 8 m.clock (base m) e es some ok.known t.few t.sound ends);
      few = still_few p.requesters 8 (length (due_before deadline es)) es n.policy.waiting e t.few room j.0;
      owned = all_unserved_joined (Owned w p.requesters) m q number deadline n a (
        own_slot p.requesters q.requester t.sound.next + length (own q.requester es) * p.requesters,
        own_later p.requesters (own_slot p.requesters q.requester t.sound.next) (length (own q.requester es)) ∙ own_slot_of p.requesters q.requester t.sound.next ok.known,
        ends,
      ) t.owned;
      columns = t.columns;
    }

-- a turn that gives nothing found no slot that starts now
none_starts : (w c : ℕ) (es : List Entry) → 1 ≤ w → Timely w c es → starts_now w c (slice_get es 0) ≡ false
none_starts w c [] o t = refl
none_starts w c (e ∷ es) o t = ne_eqb e.deadline (c + w - 1) (λ i. omega (arith, t.0))

-- fewer wait where one has gone
few_left : (n : ℕ) (e : Entry) (es : List Entry) → ((r : ℕ) → length (own r (e ∷ es)) ≤ places_of n 8 r) → (r : ℕ) → length (own r es) ≤ places_of n 8 r
few_left n e es h r = elim (eqb e.requester r) as (λ b. length (cond b (e ∷ own r es) (own r es)) ≤ places_of n 8 r → length (own r es) ≤ places_of n 8 r) [
  | true ↦ λ l. omega arith
  | false ↦ λ l. l
] (h r)

-- inside a tick: what waits is sound at a clock from which the new one follows, with its spans counted from where the service may end
pub record Midway (m : Machine) (es : List Entry) (s : Service) : Type 0 where
  pub clock : ℕ
  pub soon : clock ≤ m.clock + 1
  pub sound : TurnSound m.policy.span m.policy.requesters clock ((s.start + m.policy.span) - 1) es

ends_soon : (k : Kind) (s : Service) (w n c clock : ℕ) (es : List Entry) → c ≤ clock + 1 → clock < s.start + w → TurnSound w n c ((s.start + w) - 1) es → TurnSound w n (clock + 1) (base_at (clock + 1) w (stays_after k s)) es
ends_soon Idle s w n c clock es l u t = turn_shortened w n c ((s.start + w) - 1) (clock + 1) ((s.start + w) - 1) es l (omega arith) (omega arith) t
ends_soon Activate s w n c clock es l u t = turn_shortened w n c ((s.start + w) - 1) (clock + 1) ((s.start + w) - 1) es l (omega arith) (omega arith) t
ends_soon Precharge s w n c clock es l u t = turn_shortened w n c ((s.start + w) - 1) (clock + 1) ((s.start + w) - 1) es l (omega arith) (omega arith) t
ends_soon Read s w n c clock es l u t = turn_shortened w n c ((s.start + w) - 1) (clock + 1) ((clock + 1) - 1) es l (omega arith) (omega arith) t
ends_soon Write s w n c clock es l u t = turn_shortened w n c ((s.start + w) - 1) (clock + 1) ((clock + 1) - 1) es l (omega arith) (omega arith) t

-- a column command that is held goes out at its entry's deadline
pub held : (m : Machine) (e : Entry) (c : Command) → c ≡ next_command m e → Ready m e → m.policy.holds ≡ true → Column c.kind → c ≡ column_for e.deadline e
held m e c is ready holds column =
    let o = open_row e.bank m.trace in
    let moves : Column (next_from o m.clock e).kind = subst (λ (d : Command). Column d.kind) is column in
    is ∙ next_asks o m.clock e moves ∙ ap (λ (t : ℕ). column_for t e) (ready.1 holds moves)

served_turns : (m : Machine) (s : Service) (answer : Option Command) (then : Option Service) → m.service ≡ Some s → Goes m (Some s) answer then → Running m → m.policy.order ≡ turn_order →
    Midway m m.policy.waiting s → ((r : ℕ) → length (own r m.policy.waiting) ≤ places_of m.policy.requesters 8 r) → AllByRecursion (Owned m.policy.span m.policy.requesters) (s.entry ∷ m.policy.waiting) → Every (InSlot m.policy.span m.policy.requesters) m.trace → Turning (sent m answer then)
served_turns m s None then v g r o h few owned columns = subst (λ (x : Option Service). Turning (sent m None x)) (sym g.1) (record {
  in_turn = o;
  sound = ends_soon Idle s m.policy.span m.policy.requesters h.clock m.clock m.policy.waiting h.soon (within_span m s (stage_of m s v r) r.span_fits) h.sound;
  few = few;
  owned = owned;
  columns = columns;
})
served_turns m s (Some c) then v g r o h few owned columns = subst (λ (x : Option Service). Turning (sent m (Some c) x)) (sym g.2) (record {
  in_turn = o;
  sound = ends_soon c.kind s m.policy.span m.policy.requesters h.clock m.clock m.policy.waiting h.soon (within_span m s (stage_of m s v r) r.span_fits) h.sound;
  few = few;
  owned = all_left (Owned m.policy.span m.policy.requesters) c.kind s m.policy.waiting owned;
  columns = every_last (InSlot m.policy.span m.policy.requesters) m.trace c columns (λ column.
      subst (λ (d : Command). EndsOwn m.policy.span m.policy.requesters d.requester d.cycle) (sym (held m s.entry c g.0 g.1 (r.shaped.turns_hold o) column)) owned.0);
})

-- with nothing in service and nothing given
idle_turns : (m : Machine) → m.service ≡ None → Timely m.policy.span m.clock m.policy.waiting → Running m → Turning m → Turning (sent m None None)
idle_turns m v late r t =
    let w = m.policy.span in
    let some : 1 ≤ w = omega (arith, r.shaped.span_bound) in
    let now : TurnSound w m.policy.requesters m.clock (m.clock - 1) m.policy.waiting = subst (λ (o : Option Service). TurnSound w m.policy.requesters m.clock (base_at m.clock w o) m.policy.waiting) v t.sound in
    record {
      in_turn = t.in_turn;
      sound = subst (λ (b : ℕ). TurnSound w m.policy.requesters (m.clock + 1) b m.policy.waiting) (omega arith)
          (turn_idle w m.policy.requesters m.clock m.policy.waiting some (all_inside m.policy.requesters 8 m.policy.waiting t.few) (none_starts w m.clock m.policy.waiting some late) now);
      few = t.few;
      owned = subst (λ (o : Option Service). AllByRecursion (Owned w m.policy.requesters) (unserved_of o m.policy.waiting)) v t.owned;
      columns = t.columns;
    }

-- a tick with its two halves
few_on : (m : Machine) (es : List Entry) → es ≡ m.policy.waiting → Turning m → (r : ℕ) → length (own r es) ≤ places_of m.policy.requesters 8 r
few_on m es w t r = subst (λ (xs : List Entry). length (own r xs) ≤ places_of m.policy.requesters 8 r) (sym w) (t.few r)

given_sound : (m : Machine) (es : List Entry) (e : Entry) → m.service ≡ None → m.policy.waiting ≡ e ∷ es → (m.policy.holds ≡ true → e.deadline + 1 ≡ m.clock + m.policy.span) → Running m → Turning m → TurnSound m.policy.span m.policy.requesters (m.clock + 1) ((m.clock + m.policy.span) - 1) es
given_sound m es e v w on r t =
    let span = m.policy.span in
    let n = m.policy.requesters in
    let now : TurnSound span n m.clock (m.clock - 1) (e ∷ es) = subst (λ (xs : List Entry). TurnSound span n m.clock (m.clock - 1) xs) w (subst (λ (o : Option Service). TurnSound span n m.clock (base_at m.clock span o) m.policy.waiting) v t.sound) in
    let inside : AllByRecursion (λ (x : Entry). x.requester < n) (e ∷ es) = subst (λ (xs : List Entry). AllByRecursion (λ (x : Entry). x.requester < n) xs) w (all_inside n 8 m.policy.waiting t.few) in
    turn_given span n m.clock e es (omega (arith, r.shaped.span_bound)) inside.0 (omega (arith, on (r.shaped.turns_hold t.in_turn))) now

half_turns : (m : Machine) (pc : ℕ) (es : List Entry) (now : Option Service) (s : Service) (answer : Option Command) (then : Option Service) → Begins m es now → now ≡ Some s → Goes (begun m pc es now) now answer then → Running m → Turning m →
    TurnSound m.policy.span m.policy.requesters m.clock ((s.start + m.policy.span) - 1) es ⊎ TurnSound m.policy.span m.policy.requesters (m.clock + 1) ((s.start + m.policy.span) - 1) es →
    ((r : ℕ) → length (own r es) ≤ places_of m.policy.requesters 8 r) → Turning (sent (begun m pc es now) answer then)
half_turns m pc es now s answer then b is g r t sound few =
    let k : Machine = begun m pc es now in
    let half : Midway k es s = elim sound [
      | inl x ↦ record { clock = m.clock; soon = omega arith; sound = x }
      | inr x ↦ record { clock = m.clock + 1; soon = omega arith; sound = x }
    ] in
    served_turns k s answer then is (subst (λ (o : Option Service). Goes k o answer then) is g) (begins_runs m pc es now b r) t.in_turn half few
    (subst (λ (o : Option Service). AllByRecursion (Owned m.policy.span m.policy.requesters) (unserved_of o es)) is (subst (λ (xs : List Entry). AllByRecursion (Owned m.policy.span m.policy.requesters) xs) (sym (same_unserved m es now b)) t.owned))
    t.columns

tick_turns : (m : Machine) (answer : Option Command) (then : Option Service) (pc : ℕ) (es : List Entry) (now : Option Service) → Begins m es now → Goes (begun m pc es now) now answer then → Running m → Turning m → Turning (sent (begun m pc es now) answer then)
tick_turns m answer then pc es now (running s v w is) g r t =
    half_turns m pc es now s answer then (running s v w is) is g r t
    (inl (subst (λ (xs : List Entry). TurnSound m.policy.span m.policy.requesters m.clock ((s.start + m.policy.span) - 1) xs) (sym w)
    (subst (λ (o : Option Service). TurnSound m.policy.span m.policy.requesters m.clock (base_at m.clock m.policy.span o) m.policy.waiting) v t.sound)))
    (few_on m es w t)
tick_turns m answer then pc es now (given e v w is on) g r t =
    half_turns m pc es now (record { entry = e; start = m.clock }) answer then (given e v w is on) is g r t
    (inr (given_sound m es e v w on r t))
    (few_left m.policy.requesters e es (λ q. subst (λ (xs : List Entry). length (own q xs) ≤ places_of m.policy.requesters 8 q) w (t.few q)))
tick_turns m answer then pc es now (idle v w is late) g r t =
    let k : Machine = begun m pc es now in
    let n = nothing_goes k now answer then is g in
    subst (λ (o : Option Command). Turning (sent k o then)) (sym n.0)
    (subst (λ (o : Option Service). Turning (sent k None o)) (sym n.1)
    (idle_turns k is (subst (λ (xs : List Entry). Timely m.policy.span m.clock xs) (sym w) late) (begins_runs m pc es now (idle v w is late) r) (record {
      in_turn = t.in_turn;
      sound = subst (λ (xs : List Entry). TurnSound m.policy.span m.policy.requesters m.clock (base_at m.clock m.policy.span now) xs) (sym w) (subst (λ (o : Option Service). TurnSound m.policy.span m.policy.requesters m.clock (base_at m.clock m.policy.span o) m.policy.waiting) (v ∙ sym is) t.sound);
      few = few_on m es w t;
      owned = subst (λ (xs : List Entry). AllByRecursion (Owned m.policy.span m.policy.requesters) xs) (sym (same_unserved m es now (idle v w is late))) t.owned;
      columns = t.columns;
    })))

pub ticked_turns : (m : Machine) (answer : Option Command) (n : Machine) → Halves m answer n → Running m → Turning m → Turning n
ticked_turns m answer n h r t = subst Turning (sym h.ends) (tick_turns m answer n.service h.policy_clock h.entries h.now h.begins h.goes r t)
