-- Each call goes on as the requester's view does: its own offers are answered by the view, the offers of others leave it alone, and what is sent was promised.
use Rattle.std.proofs.Common.{◌≡◌, ℕ, ◌+◌, ◌*◌, ◌<◌, ◌≤◌, Bool, true, false, cond, ◌&&◌, eqb, leb, List, [], ◌∷◌, ◌++◌, map, length, Some, None, Option, sym, refl, ap, ◌∙◌, subst, append_assoc, append-nil, arith}
use Rattle.std.specs.List.{AllByRecursion}
use Rattle.std.proofs.lemmas.List.{map-append, length-append}
use Rattle.std.proofs.lemmas.List.Elements.{filter-append}
use Rattle.std.proofs.lemmas.Bool.{eqb-true, eqb-false, eq-eqb, ne_eqb, le-leb, lt-leb, cond-true, cond-false}
use Rattle.rulebook.specs.declared.command.Command.{Command}
use Rattle.rulebook.specs.declared.command.Kind.{Kind}
use Rattle.rulebook.specs.declared.command.Kind.TheVariants.{Idle, Activate, Precharge, Read, Write}
use Rattle.rulebook.specs.Book.{Column}
use Rattle.policy.specs.declared.entry.Request.{Request}
use Rattle.policy.specs.declared.entry.Entry.{Entry}
use Rattle.policy.specs.Meaning.{own, due_before, first_own_slot, slot_end}
use Rattle.policy.specs.Joining.{Clear, slot_clear, joined_own, joined_others}
use Rattle.machine.specs.Machine.{Service, Machine, asked_kind, entry_for, Accepted, Goes, stays_after, extended, Event, offer, tick, Answer, accepted, ticked, refused, Step, offer_refusal}
use Rattle.machine.specs.Promises.{is_column, columns_of}
use Rattle.machine.proofs.Steps.{is_joined, joined_to, begun, Halves, halves}
use Rattle.machine.proofs.Offers.{acceptable}
use Rattle.machine.proofs.Running.{unserved_of, unserved, Running}
use Rattle.machine.proofs.Sending.{same_unserved}
use Rattle.machine.proofs.Turning.{Turning, joins_in_turn, in_own_slot, held}
use Rattle.machine.proofs.Reached.{Reached}
use Rattle.machine.proofs.Views.{View, to_come, kind_or_idle, promise_of, refusal_at, reply_by, after_offer, view_next, due_command, Seen, own_split, ahead_is, refusal_is}

holding : (start m : Machine) → Reached start m → m.policy.holds ≡ true
holding start m l = l.runs.0.shaped.turns_hold l.turns.in_turn

-- an own offer joins behind the requester's others
own_joins : (m : Machine) (q : Request) (number deadline : ℕ) (n : Machine) (a : Accepted m q number deadline n) → Running m → Turning m → own q.requester n.policy.waiting ≡ own q.requester m.policy.waiting ++ (entry_for m.policy q number a.kind deadline ∷ [])
own_joins m q number deadline n a run t =
    let es = m.policy.waiting in
    let r = q.requester in
    let w = m.policy.span in
    let k = t.sound.next in
    let e : Entry = entry_for m.policy q number a.kind deadline in
    let clear : AllByRecursion (Clear w r deadline) es = subst (λ (d : ℕ). AllByRecursion (Clear w r d) es) (sym (in_own_slot m q number deadline n a run t)) (slot_clear w m.policy.requesters k r 8 es (acceptable m q a.no_reason).known t.few t.sound.owned) in
    ap (own r) (joins_in_turn m q number deadline n a t.in_turn).0 ∙ joined_own w (k * w) e es (omega (arith, run.shaped.span_bound)) t.sound.apart clear

unserved_joins : (r : ℕ) (o : Option Service) (es fs : List Entry) (e : Entry) → own r fs ≡ own r es ++ (e ∷ []) → own r (unserved_of o fs) ≡ own r (unserved_of o es) ++ (e ∷ [])
unserved_joins r o es fs e j =
    own_split r o fs ∙ ap (λ (xs : List Entry). own r (unserved_of o []) ++ xs) j ∙ sym (append_assoc (own r (unserved_of o [])) (own r es) (e ∷ [])) ∙ ap (λ (xs : List Entry). xs ++ (e ∷ [])) (sym (own_split r o es))

-- and is promised what the view says
promise_is : (start m : Machine) (q : Request) (number deadline : ℕ) (n : Machine) (a : Accepted m q number deadline n) (v : View) → Reached start m → Seen q.requester m v → due_command (entry_for m.policy q number a.kind deadline) ≡ promise_of start v q
promise_is start m q number deadline n a v l seen =
    let s = l.constant.shape_is in
    let ahead : length (own q.requester m.policy.waiting) ≡ length (to_come start.policy.span v) =
    sym (ahead_is q.requester m v l.runs (holding start m l) seen) ∙ ap (λ (w : ℕ). length (to_come w v)) s.span_same in
    let cycle : deadline ≡ slot_end start.policy.span (first_own_slot start.policy.span start.policy.requesters q.requester v.clock + length (to_come start.policy.span v) * start.policy.requesters) =
    (joins_in_turn m q number deadline n a l.turns.in_turn).1
    ∙ (λ i. slot_end (s.span_same i) (first_own_slot (s.span_same i) (s.requesters_same i) q.requester (sym seen.clock_is i) + ahead i * s.requesters_same i)) in
    let kind : a.kind ≡ kind_or_idle (asked_kind q.kind) = sym (ap kind_or_idle a.kind_is) in
    let number_is : number ≡ length v.promised = a.number_is ∙ seen.count_is in
    λ i. record { cycle = cycle i; kind = kind i; bank = s.names_same i q.bank q.row; row = q.row; column = q.column; requester = q.requester; number = number_is i }

joined_seen : (start m : Machine) (q : Request) (number deadline : ℕ) (n : Machine) (a : Accepted m q number deadline n) (v : View) → Reached start m → Seen q.requester m v →
    Seen q.requester (joined_to m q.requester n.policy.waiting) (record { clock = v.clock; promised = v.promised ++ (promise_of start v q ∷ []) })
joined_seen start m q number deadline n a v l seen =
    let r = q.requester in
    let e : Entry = entry_for m.policy q number a.kind deadline in
    let cs = columns_of r m.trace in
    let es = own r (unserved m) in
    record {
      clock_is = seen.clock_is;
      count_is = cond-true (eqb r r) (m.accepted r + 1) (m.accepted r) (eq-eqb r r refl) ∙ omega (arith, seen.count_is, length-append v.promised (promise_of start v q ∷ []));
      line =
          ap (λ (xs : List Entry). cs ++ map due_command xs) (unserved_joins r m.service m.policy.waiting n.policy.waiting e (own_joins m q number deadline n a l.runs.0 l.turns))
          ∙ ap (λ (ds : List Command). cs ++ ds) (map-append due_command es (e ∷ []))
          ∙ sym (append_assoc cs (map due_command es) (due_command e ∷ []))
          ∙ (λ i. seen.line i ++ (promise_is start m q number deadline n a v l seen i ∷ []));
    }

-- what an own offer is answered, and what it leaves
abbrev OwnFollows : Machine → ℕ → View → Request → Answer → Machine → Type 0
OwnFollows start r v q a n = (a ≡ reply_by (refusal_at start v q) (promise_of start v q)) × Seen r n (view_next start v (offer q))

own_accepted : (start m : Machine) (q : Request) (number deadline : ℕ) (n : Machine) → Accepted m q number deadline n → (v : View) → Reached start m → Seen q.requester m v → OwnFollows start q.requester v q (accepted number deadline) n
own_accepted start m q number deadline n a v l seen =
    let none : refusal_at start v q ≡ None = sym (refusal_is start m q v l.constant l.runs (holding start m l) seen) ∙ a.no_reason in
    let promise = promise_is start m q number deadline n a v l seen in
    subst (λ (o : Option ℕ). (accepted number deadline ≡ reply_by o (promise_of start v q)) × Seen q.requester n (after_offer o v (promise_of start v q))) (sym none)
    (λ i. accepted (promise i).number (promise i).cycle, subst (λ (k : Machine). Seen q.requester k (record { clock = v.clock; promised = v.promised ++ (promise_of start v q ∷ []) })) (sym (is_joined m q number deadline n a)) (joined_seen start m q number deadline n a v l seen))

own_refused : (start m : Machine) (q : Request) (why : ℕ) (n : Machine) → offer_refusal m q ≡ Some why → n ≡ m → (v : View) → Reached start m → Seen q.requester m v → OwnFollows start q.requester v q (refused why) n
own_refused start m q why n because same v l seen =
    let some : refusal_at start v q ≡ Some why = sym (refusal_is start m q v l.constant l.runs (holding start m l) seen) ∙ because in
    subst (λ (o : Option ℕ). (refused why ≡ reply_by o (promise_of start v q)) × Seen q.requester n (after_offer o v (promise_of start v q))) (sym some)
    (refl, subst (λ (k : Machine). Seen q.requester k v) (sym same) seen)

-- another's offer leaves the view as it is
other_accepted : (r : ℕ) (start m : Machine) (q : Request) (number deadline : ℕ) (n : Machine) → Accepted m q number deadline n → (v : View) → Reached start m → (q.requester ≡ r → ⊥) → Seen r m v → Seen r n v
other_accepted r start m q number deadline n a v l u seen =
    let e : Entry = entry_for m.policy q number a.kind deadline in
    let same : own r n.policy.waiting ≡ own r m.policy.waiting = ap (own r) (joins_in_turn m q number deadline n a l.turns.in_turn).0 ∙ joined_others r (length (due_before deadline m.policy.waiting)) e m.policy.waiting u in
    subst (λ (k : Machine). Seen r k v) (sym (is_joined m q number deadline n a)) (record {
      clock_is = seen.clock_is;
      count_is = cond-false (eqb r q.requester) (m.accepted r + 1) (m.accepted r) (ne_eqb r q.requester (λ i. u (sym i))) ∙ seen.count_is;
      line =
          ap (λ (xs : List Entry). columns_of r m.trace ++ map due_command xs) (own_split r m.service n.policy.waiting ∙ ap (λ (xs : List Entry). own r (unserved_of m.service []) ++ xs) same ∙ sym (own_split r m.service m.policy.waiting))
          ∙ seen.line;
    })

-- one command more among a requester's column commands
columns_more : (r : ℕ) (h : List Command) (c : Command) (b : Bool) → is_column c.kind ≡ b → columns_of r (h ++ (c ∷ [])) ≡ columns_of r h ++ cond (b && eqb c.requester r) (c ∷ []) []
columns_more r h c b is =
    filter-append (λ (d : Command). is_column d.kind && eqb d.requester r) h (c ∷ [])
    ∙ ap (λ (x : Bool). columns_of r h ++ cond (x && eqb c.requester r) (c ∷ []) []) is

other_moves : (r : ℕ) (h : List Command) (c : Command) (s : Service) (es : List Entry) → is_column c.kind ≡ false → columns_of r (h ++ (c ∷ [])) ++ map due_command (own r (s.entry ∷ es)) ≡ columns_of r h ++ map due_command (own r (s.entry ∷ es))
other_moves r h c s es is = ap (λ (ds : List Command). ds ++ map due_command (own r (s.entry ∷ es))) (columns_more r h c false is ∙ append-nil (columns_of r h))

column_moves : (r : ℕ) (h : List Command) (c : Command) (s : Service) (es : List Entry) → is_column c.kind ≡ true → c ≡ due_command s.entry → columns_of r (h ++ (c ∷ [])) ++ map due_command (own r es) ≡ columns_of r h ++ map due_command (own r (s.entry ∷ es))
column_moves r h c s es is w =
    ap (λ (ds : List Command). ds ++ map due_command (own r es)) (columns_more r h c true is ∙ ap (λ (d : Command). columns_of r h ++ cond (eqb d.requester r) (d ∷ []) []) w)
    ∙ elim (eqb s.entry.requester r) as (λ b. (columns_of r h ++ cond b (due_command s.entry ∷ []) []) ++ map due_command (own r es) ≡ columns_of r h ++ map due_command (cond b (s.entry ∷ own r es) (own r es))) [
      | true ↦ append_assoc (columns_of r h) (due_command s.entry ∷ []) (map due_command (own r es))
      | false ↦ ap (λ (ds : List Command). ds ++ map due_command (own r es)) (append-nil (columns_of r h))
    ]

line_moves : (r : ℕ) (h : List Command) (c : Command) (s : Service) (es : List Entry) (k : Kind) → c.kind ≡ k → (Column k → c ≡ due_command s.entry) → columns_of r (h ++ (c ∷ [])) ++ map due_command (own r (unserved_of (stays_after k s) es)) ≡ columns_of r h ++ map due_command (own r (s.entry ∷ es))
line_moves r h c s es Idle is w = other_moves r h c s es (ap is_column is)
line_moves r h c s es Activate is w = other_moves r h c s es (ap is_column is)
line_moves r h c s es Precharge is w = other_moves r h c s es (ap is_column is)
line_moves r h c s es Read is w = column_moves r h c s es (ap is_column is) (w tt)
line_moves r h c s es Write is w = column_moves r h c s es (ap is_column is) (w tt)

-- what goes out moves from those to come to those sent
line_goes : (r : ℕ) (m : Machine) (now : Option Service) (es : List Entry) (answer : Option Command) (then : Option Service) → Goes m now answer then → m.policy.holds ≡ true →
    columns_of r (extended m.trace answer) ++ map due_command (own r (unserved_of then es)) ≡ columns_of r m.trace ++ map due_command (own r (unserved_of now es))
line_goes r m None es None then g h = ap (λ (o : Option Service). columns_of r m.trace ++ map due_command (own r (unserved_of o es))) g
line_goes r m None es (Some c) then g h = absurd g
line_goes r m (Some s) es None then g h = ap (λ (o : Option Service). columns_of r m.trace ++ map due_command (own r (unserved_of o es))) g.1
line_goes r m (Some s) es (Some c) then g h =
    ap (λ (o : Option Service). columns_of r (m.trace ++ (c ∷ [])) ++ map due_command (own r (unserved_of o es))) g.2
    ∙ line_moves r m.trace c s es c.kind refl (λ column. held m s.entry c g.0 g.1 h column)

ticked_seen : (r : ℕ) (start m : Machine) (answer : Option Command) (n : Machine) → Halves m answer n → m.clock ≤ m.last → (v : View) → Reached start m → Seen r m v → Seen r n (view_next start v tick)
ticked_seen r start m answer n h on v l seen =
    let k : Machine = begun m h.policy_clock h.entries h.now in
    let goes_on : leb v.clock start.last ≡ true = le-leb v.clock start.last (omega (arith, seen.clock_is, l.constant.last_is)) in
    subst (λ (b : Bool). Seen r n (cond b (record { clock = v.clock + 1; promised = v.promised }) v)) (sym goes_on)
    (subst (λ (x : Machine). Seen r x (record { clock = v.clock + 1; promised = v.promised })) (sym h.ends) (record {
      clock_is = omega (arith, seen.clock_is);
      count_is = seen.count_is;
      line = line_goes r k h.now h.entries answer n.service h.goes (holding start m l)
          ∙ ap (λ (xs : List Entry). columns_of r m.trace ++ map due_command (own r xs)) (same_unserved m h.entries h.now h.begins)
          ∙ seen.line;
    }))

past_seen : (r : ℕ) (start m n : Machine) → m.last < m.clock → n ≡ m → (v : View) → Reached start m → Seen r m v → Seen r n (view_next start v tick)
past_seen r start m n past same v l seen =
    let stops : leb v.clock start.last ≡ false = lt-leb v.clock start.last (omega (arith, seen.clock_is, l.constant.last_is)) in
    subst (λ (b : Bool). Seen r n (cond b (record { clock = v.clock + 1; promised = v.promised }) v)) (sym stops) (subst (λ (k : Machine). Seen r k v) (sym same) seen)

-- a call in a requester's eyes
abbrev pub OfferFollows : Bool → Machine → ℕ → View → Request → Answer → Machine → Type 0
OfferFollows true start r v q a n = OwnFollows start r v q a n
OfferFollows false start r v q a n = Seen r n v

abbrev pub Follows : Machine → ℕ → View → Event → Answer → Machine → Type 0
Follows start r v (offer q) a n = OfferFollows (eqb q.requester r) start r v q a n
Follows start r v tick a n = Seen r n (view_next start v tick)

own_offer : (r : ℕ) (start m : Machine) (q : Request) (a : Answer) (n : Machine) (v : View) → Reached start m → Seen r m v → Step m (offer q) a n → q.requester ≡ r → OwnFollows start r v q a n
own_offer r start m q (accepted number deadline) n v l seen s e = subst (λ (x : ℕ). OwnFollows start x v q (accepted number deadline) n) e (own_accepted start m q number deadline n s v l (subst (λ (x : ℕ). Seen x m v) (sym e) seen))
own_offer r start m q (refused why) n v l seen s e = subst (λ (x : ℕ). OwnFollows start x v q (refused why) n) e (own_refused start m q why n s.0 s.1 v l (subst (λ (x : ℕ). Seen x m v) (sym e) seen))
own_offer r start m q (ticked c) n v l seen s e = absurd s

other_offer : (r : ℕ) (start m : Machine) (q : Request) (a : Answer) (n : Machine) (v : View) → Reached start m → Seen r m v → Step m (offer q) a n → (q.requester ≡ r → ⊥) → Seen r n v
other_offer r start m q (accepted number deadline) n v l seen s u = other_accepted r start m q number deadline n s v l u seen
other_offer r start m q (refused why) n v l seen s u = subst (λ (k : Machine). Seen r k v) (sym s.1) seen
other_offer r start m q (ticked c) n v l seen s u = absurd s

offer_follows : (b : Bool) (r : ℕ) (start m : Machine) (q : Request) (a : Answer) (n : Machine) (v : View) → eqb q.requester r ≡ b → Reached start m → Seen r m v → Step m (offer q) a n → OfferFollows b start r v q a n
offer_follows true r start m q a n v e l seen s = own_offer r start m q a n v l seen s (eqb-true q.requester r e)
offer_follows false r start m q a n v e l seen s = other_offer r start m q a n v l seen s (eqb-false q.requester r e)

pub follows : (r : ℕ) (start m : Machine) (e : Event) (a : Answer) (n : Machine) (v : View) → Reached start m → Seen r m v → Step m e a n → Follows start r v e a n
follows r start m (offer q) a n v l seen s = offer_follows (eqb q.requester r) r start m q a n v refl l seen s
follows r start m tick (ticked c) n v l seen s = ticked_seen r start m c n (halves m c n s) s.running v l seen
follows r start m tick (refused why) n v l seen s = past_seen r start m n s.0 s.2 v l seen
follows r start m tick (accepted number deadline) n v l seen s = absurd s
