-- A requester's view of a session under turn order: the clock, and the column commands promised to it. It goes on by the ticks and the requester's own offers alone.
use Rattle.std.proofs.Common.{◌≡◌, ℕ, ◌+◌, ◌-◌, ◌*◌, ◌<◌, ◌≤◌, Bool, true, false, cond, ◌&&◌, eqb, ltb, leb, List, [], ◌∷◌, ◌++◌, map, length, Some, None, filter, Option, sym, refl, ap, ◌∙◌, append-nil, arith}
use Rattle.std.specs.List.{AllByRecursion}
use Rattle.std.proofs.lemmas.List.{map-append, length-map}
use Rattle.std.proofs.lemmas.List.Elements.{filter-append}
use Rattle.std.proofs.ByRecursion.{all_kept_by, All-weaker, All-map}
use Rattle.std.proofs.lemmas.Bool.{le-leb, lt-leb, lt-ltb, le-ltb}
use Rattle.rulebook.specs.declared.command.Command.{Command}
use Rattle.rulebook.specs.declared.command.Kind.{Kind}
use Rattle.rulebook.specs.declared.command.Kind.TheVariants.{Idle}
use Rattle.policy.specs.declared.entry.Request.{Request}
use Rattle.policy.specs.declared.entry.Entry.{Entry}
use Rattle.policy.specs.Meaning.{Timely, own, first_own_slot, slot_end}
use Rattle.machine.specs.Machine.{Service, Machine, base_at, asked_kind, improper, offer_refusal, column_for, Event, offer, tick, Answer, accepted, refused}
use Rattle.machine.specs.Promises.{is_column, columns_of}
use Rattle.machine.proofs.Lists.{kept_none, kept_every}
use Rattle.machine.proofs.Stages.{Staged}
use Rattle.machine.proofs.Running.{unserved_of, unserved, Running, Begun}
use Rattle.machine.proofs.Serving.{Runs, within_span}
use Rattle.machine.proofs.Kept.{unserved_late}
use Rattle.machine.proofs.Frames.{all_from}
use Rattle.machine.proofs.Told.{Constant}

pub record View : Type 0 where
  pub clock : ℕ
  pub promised : List Command

-- those whose service has not begun
abbrev pub to_come : ℕ → View → List Command
to_come span v = filter (λ c. leb (v.clock + span) (c.cycle + 1)) v.promised

-- those that have gone out
abbrev pub gone : View → List Command
gone v = filter (λ c. ltb c.cycle v.clock) v.promised

-- the kind that a request asks for, idle where it asks for none
abbrev pub kind_or_idle : Option Kind → Kind
kind_or_idle None = Idle
kind_or_idle (Some k) = k

-- the column command that an offer would be promised
abbrev pub promise_of : Machine → View → Request → Command
promise_of start v q = record {
  cycle = slot_end start.policy.span (first_own_slot start.policy.span start.policy.requesters q.requester v.clock + length (to_come start.policy.span v) * start.policy.requesters);
  kind = kind_or_idle (asked_kind q.kind);
  bank = start.policy.bank_name q.bank q.row;
  row = q.row;
  column = q.column;
  requester = q.requester;
  number = length v.promised;
}

-- why it would be refused
abbrev pub refusal_at : Machine → View → Request → Option ℕ
refusal_at start v q =
    cond (leb start.policy.requesters q.requester) (Some 10)
    (cond (improper start.chip q) (Some 11)
    (cond (ltb start.last ((v.clock - 1) + start.policy.reach)) (Some 12)
    (cond (leb (start.policy.places q.requester) (length (to_come start.policy.span v))) (Some 13) None)))

-- what an offer is answered, and what it leaves
abbrev pub reply_by : Option ℕ → Command → Answer
reply_by None c = accepted c.number c.cycle
reply_by (Some why) c = refused why

abbrev pub after_offer : Option ℕ → View → Command → View
after_offer None v c = record { clock = v.clock; promised = v.promised ++ (c ∷ []) }
after_offer (Some why) v c = v

abbrev pub view_next : Machine → View → Event → View
view_next start v (offer q) = after_offer (refusal_at start v q) v (promise_of start v q)
view_next start v tick = cond (leb v.clock start.last) (record { clock = v.clock + 1; promised = v.promised }) v

-- the view after some events, and the answers to the offers among them
abbrev pub views : Machine → View → List Event → View
views start v [] = v
views start v (e ∷ es) = views start (view_next start v e) es

abbrev pub replies : Machine → View → List Event → List Answer
replies start v [] = []
replies start v (offer q ∷ es) = reply_by (refusal_at start v q) (promise_of start v q) ∷ replies start (view_next start v (offer q)) es
replies start v (tick ∷ es) = replies start (view_next start v tick) es

-- the column command that a held entry will have
abbrev pub due_command : Entry → Command
due_command e = column_for e.deadline e

-- a machine as a requester sees it: its column commands sent, and those that its unserved entries will have, are those promised, in their order
pub record Seen (r : ℕ) (m : Machine) (v : View) : Type 0 where
  pub clock_is : v.clock ≡ m.clock
  pub count_is : m.accepted r ≡ length v.promised
  pub line : columns_of r m.trace ++ map due_command (own r (unserved m)) ≡ v.promised

-- a requester's unserved entries: the one in service, then those that wait
pub own_split : (r : ℕ) (o : Option Service) (es : List Entry) → own r (unserved_of o es) ≡ own r (unserved_of o []) ++ own r es
own_split r None es = refl
own_split r (Some s) es = elim (eqb s.entry.requester r) as (λ b. cond b (s.entry ∷ own r es) (own r es) ≡ cond b (s.entry ∷ []) [] ++ own r es) [ true ↦ refl | false ↦ refl ]

-- commands that went out lie before the clock
sent_before : (r : ℕ) (m : Machine) → Running m → AllByRecursion (λ c. c.cycle < m.clock) (columns_of r m.trace)
sent_before r m run = all_kept_by (λ (c : Command). is_column c.kind && eqb c.requester r) (λ c. c.cycle < m.clock) m.trace (all_from (λ c. c.cycle < m.clock) m.trace run.before)

-- a service that began needs less than a span
serving_soon : (m : Machine) (o : Option Service) → Begun m.clock o → Staged m o → m.policy.holds ≡ true → AllByRecursion (λ e. e.deadline + 1 < m.clock + m.policy.span) (unserved_of o [])
serving_soon m None b g h = tt
serving_soon m (Some s) b g h = (omega (arith, g.on_time h), tt)

-- what waits has a span to come
waiting_far : (clock span base : ℕ) (es : List Entry) → clock ≤ base + 1 → Timely span base es → AllByRecursion (λ e. clock + span ≤ e.deadline + 1) es
waiting_far clock span base [] l t = tt
waiting_far clock span base (e ∷ es) l t = (omega (arith, t.0), waiting_far clock span (base + span) es (omega arith) t.1)

base_late : (m : Machine) (o : Option Service) → Running m → Staged m o → m.clock ≤ base_at m.clock m.policy.span o + 1
base_late m None r g = omega arith
base_late m (Some s) r g = omega (arith, within_span m s g r.span_fits)

-- the requester's waiting entries are those to come
pub ahead_is : (r : ℕ) (m : Machine) (v : View) → Runs m → m.policy.holds ≡ true → Seen r m v → length (to_come m.policy.span v) ≡ length (own r m.policy.waiting)
ahead_is r m v run h seen =
    let w = m.policy.span in
    let p : Command → Bool = λ (c : Command). leb (m.clock + w) (c.cycle + 1) in
    let cs = columns_of r m.trace in
    let serving = map due_command (own r (unserved_of m.service [])) in
    let waiting = map due_command (own r m.policy.waiting) in
    let span_some : 1 ≤ w = omega (arith, run.0.shaped.span_bound) in
    let parts : v.promised ≡ cs ++ (serving ++ waiting) =
    sym seen.line ∙ ap (λ (es : List Entry). cs ++ map due_command es) (own_split r m.service m.policy.waiting) ∙ ap (λ (ds : List Command). cs ++ ds) (map-append due_command (own r (unserved_of m.service [])) (own r m.policy.waiting)) in
    let none : filter p cs ≡ [] = kept_none p cs (All-weaker (λ (c : Command). c.cycle < m.clock) (λ (c : Command). p c ≡ false) (λ c l. lt-leb (m.clock + w) (c.cycle + 1) (omega arith)) cs (sent_before r m run.0)) in
    let mine : Entry → Bool = λ (e : Entry). eqb e.requester r in
    let nor : filter p serving ≡ [] = kept_none p serving (All-map (λ (c : Command). p c ≡ false) due_command (own r (unserved_of m.service []))
    (All-weaker (λ (e : Entry). e.deadline + 1 < m.clock + w) (λ (e : Entry). p (due_command e) ≡ false) (λ e l. lt-leb (m.clock + w) (e.deadline + 1) l) (own r (unserved_of m.service []))
    (all_kept_by mine (λ (e : Entry). e.deadline + 1 < m.clock + w) (unserved_of m.service []) (serving_soon m m.service run.1 run.0.stage h)))) in
    let every : filter p waiting ≡ waiting = kept_every p waiting (All-map (λ (c : Command). p c ≡ true) due_command (own r m.policy.waiting)
    (All-weaker (λ (e : Entry). m.clock + w ≤ e.deadline + 1) (λ (e : Entry). p (due_command e) ≡ true) (λ e l. le-leb (m.clock + w) (e.deadline + 1) l) (own r m.policy.waiting)
    (all_kept_by mine (λ (e : Entry). m.clock + w ≤ e.deadline + 1) m.policy.waiting (waiting_far m.clock w (base_at m.clock w m.service) m.policy.waiting (base_late m m.service run.0 run.0.stage) run.0.timely)))) in
    ap (λ (t : ℕ). length (filter (λ (c : Command). leb (t + w) (c.cycle + 1)) v.promised)) seen.clock_is
    ∙ ap (λ (ds : List Command). length (filter p ds)) parts
    ∙ ap length (filter-append p cs (serving ++ waiting) ∙ ap (λ (ds : List Command). ds ++ filter p (serving ++ waiting)) none ∙ filter-append p serving waiting ∙ ap (λ (ds : List Command). ds ++ filter p waiting) nor ∙ every)
    ∙ length-map (own r m.policy.waiting) due_command

-- the requester's column commands sent are those gone
pub gone_is : (r : ℕ) (m : Machine) (v : View) → Running m → Seen r m v → columns_of r m.trace ≡ gone v
gone_is r m v run seen =
    let p : Command → Bool = λ (c : Command). ltb c.cycle m.clock in
    let cs = columns_of r m.trace in
    let rest = map due_command (own r (unserved m)) in
    let every : filter p cs ≡ cs = kept_every p cs (All-weaker (λ (c : Command). c.cycle < m.clock) (λ (c : Command). p c ≡ true) (λ c l. lt-ltb c.cycle m.clock l) cs (sent_before r m run)) in
    let none : filter p rest ≡ [] = kept_none p rest (All-map (λ (c : Command). p c ≡ false) due_command (own r (unserved m))
    (All-weaker (λ (e : Entry). m.clock ≤ e.deadline) (λ (e : Entry). p (due_command e) ≡ false) (λ e l. le-ltb e.deadline m.clock l) (own r (unserved m))
    (all_kept_by (λ (e : Entry). eqb e.requester r) (λ (e : Entry). m.clock ≤ e.deadline) (unserved m) (unserved_late m run)))) in
    sym (ap (λ (t : ℕ). filter (λ (c : Command). ltb c.cycle t) v.promised) seen.clock_is
    ∙ ap (filter p) (sym seen.line)
    ∙ filter-append p cs rest
    ∙ ap (λ (ds : List Command). filter p cs ++ ds) none
    ∙ append-nil (filter p cs)
    ∙ every)

-- the machine and the view refuse for the same reason
pub refusal_is : (start m : Machine) (q : Request) (v : View) → Constant start m → Runs m → m.policy.holds ≡ true → Seen q.requester m v → offer_refusal m q ≡ refusal_at start v q
refusal_is start m q v c run h seen =
    let s = c.shape_is in
    let clock : m.clock ≡ v.clock = sym seen.clock_is in
    let ahead : length (own q.requester m.policy.waiting) ≡ length (to_come start.policy.span v) =
    sym (ahead_is q.requester m v run h seen) ∙ ap (λ (w : ℕ). length (to_come w v)) s.span_same in
    λ i. cond (leb (s.requesters_same i) q.requester) (Some 10)
    (cond (improper (c.chip_is i) q) (Some 11)
    (cond (ltb (c.last_is i) ((clock i - 1) + s.reach_same i)) (Some 12)
    (cond (leb (s.places_same i q.requester) (ahead i)) (Some 13) None)))
