-- The promises that hold whatever the order, read off at the end of a chain.
use Rattle.std.proofs.Common.{◌≡◌, ℕ, ◌+◌, ◌-◌, ◌<◌, ◌≤◌, Bool, true, false, cond, eqb, List, [], ◌∷◌, ◌++◌, Some, None, Option, sym, refl, ap, ◌∙◌, subst, append_assoc, arith}
use Rattle.std.specs.List.{AllByRecursion}
use Rattle.sheet.specs.declared.accepted.Sheet.{Sheet}
use Rattle.sheet.specs.declared.geometry.Chip.{Chip}
use Rattle.rulebook.specs.declared.command.Command.{Command}
use Rattle.rulebook.specs.Book.{Column, open_row, Obeys}
use Rattle.policy.specs.declared.entry.Request.{Request}
use Rattle.policy.specs.declared.entry.Entry.{Entry}
use Rattle.policy.specs.Meaning.{Timely}
use Rattle.machine.specs.Machine.{Service, Machine, opened, base_at, Goes, next_from, next_command, column_for, precharge_for, Event, offer, tick, accepted, ticked, Step, Exchange, Chain}
use Rattle.machine.specs.Promises.{commands, AcceptedIn, WithinTheRules, AskedFor, AccountedFor, NumbersApart, CellsApart, ServedOnceInTime, DeadlinesNear}
use Rattle.machine.specs.Opens.{WheneverOpened}
use Rattle.machine.proofs.Steps.{begun, halves}
use Rattle.machine.proofs.Stages.{Staged}
use Rattle.machine.proofs.Offers.{acceptable}
use Rattle.machine.proofs.Running.{unserved_of, unserved, Running}
use Rattle.machine.proofs.Serving.{next_cycle, within_span}
use Rattle.machine.proofs.Logs.{chain_cut}
use Rattle.machine.proofs.Ledger.{pending, served, none_pending, given_below}
use Rattle.machine.proofs.Logged.{logged}
use Rattle.machine.proofs.Told.{Origin, Due, Told}
use Rattle.machine.proofs.Sending.{same_unserved, next_names}

pub within_the_rules : WheneverOpened WithinTheRules
within_the_rules s k last p f log n c =
    let l = logged s k last p f log n c in
    let t = l.told in
    subst (λ (h : List Command). Obeys s k h) t.trace_is
    (subst (λ (j : Chip). Obeys s j n.trace) t.constant.chip_is (subst (λ (u : Sheet). Obeys u n.chip n.trace) t.constant.sheet_is l.runs.0.obeys))

pub cells_apart : WheneverOpened CellsApart
cells_apart s k last p f b d r l j e = f.shaped.name_apart b d r (omega (arith, f.banks_fit)) (omega (arith, f.banks_fit)) e

-- a number that was given out is below the count, and the next one is the count
pub numbers_apart : WheneverOpened NumbersApart
numbers_apart s k last p f log n c front mid back q q' i i' d d' whole same e =
    let x : Exchange = record { event = offer q; answer = accepted i d } in
    let y : Exchange = record { event = offer q'; answer = accepted i' d' } in
    let regrouped : log ≡ (front ++ (x ∷ mid)) ++ (y ∷ back) = whole ∙ sym (append_assoc front (x ∷ mid) (y ∷ back)) in
    let cut = chain_cut (front ++ (x ∷ mid)) back y (opened s k last p) n (subst (λ (l : List Exchange). Chain (opened s k last p) l n) regrouped c) in
    let t = (logged s k last p f (front ++ (x ∷ mid)) cut.here cut.to_here).told in
    let below : i < cut.here.accepted q.requester = t.numbered q i d (front, mid, refl) in
    let next : i' ≡ cut.here.accepted q'.requester = cut.step.number_is in
    let same_count : cut.here.accepted q.requester ≡ cut.here.accepted q'.requester = ap cut.here.accepted same in
    omega arith

-- the policy keeps within its reach, and refusal 12 keeps the reach within the session
pub deadlines_near : WheneverOpened DeadlinesNear
deadlines_near s k last p f log n c before rest q number deadline whole =
    let cut = chain_cut before rest (record { event = offer q; answer = accepted number deadline }) (opened s k last p) n (subst (λ (l : List Exchange). Chain (opened s k last p) l n) whole c) in
    let m = cut.here in
    let t = (logged s k last p f before m cut.to_here).told in
    let near : deadline + 1 ≤ m.clock + m.policy.reach = cut.step.taken.within_reach in
    let early = (acceptable m q cut.step.no_reason).early in
    (omega (arith, t.clock_is, t.constant.shape_is.reach_same), omega (arith, t.clock_is, t.constant.last_is))

-- what goes out is the next command of an unserved entry
sent_for : (m : Machine) (P : Entry → Type 0) (now : Option Service) (es : List Entry) (c : Command) (then : Option Service) → Goes m now (Some c) then → AllByRecursion P (unserved_of now es) → (e : Entry) × P e × (c ≡ next_command m e)
sent_for m P None es c then g a = absurd g
sent_for m P (Some s) es c then g a = (s.entry, a.0, g.0)

-- a column command is what its entry asks for
open_asks : (b : Bool) (clock : ℕ) (e : Entry) → Column (cond {A = Command} b (column_for clock e) (precharge_for clock e)).kind → cond {A = Command} b (column_for clock e) (precharge_for clock e) ≡ column_for clock e
open_asks true clock e c = refl
open_asks false clock e c = absurd c

pub next_asks : (o : Option ℕ) (clock : ℕ) (e : Entry) → Column (next_from o clock e).kind → next_from o clock e ≡ column_for clock e
next_asks None clock e c = absurd c
next_asks (Some row) clock e c = open_asks (eqb row e.row) clock e c

asked_for : (start : Machine) (before : List Exchange) (m : Machine) (e : Entry) (c : Command) → Told start before m → Origin m.policy.bank_name before e → c ≡ next_command m e → AskedFor start before c
asked_for start before m e c t o is =
    let row = open_row e.bank m.trace in
    let names = next_names row m.clock e in
    record {
      in_its_cycle = ap (λ (d : Command). d.cycle) is ∙ next_cycle row m.clock e ∙ t.clock_is;
      request = o.request;
      number = e.number;
      deadline = e.deadline;
      was_accepted = o.was_accepted;
      carries = (ap (λ (d : Command). d.requester) is ∙ names.0 ∙ o.requester_is, ap (λ (d : Command). d.number) is ∙ names.1);
      as_asked = λ column.
          let same : c ≡ column_for m.clock e = is ∙ next_asks row m.clock e (subst (λ (d : Command). Column d.kind) is column) in (
            ap (λ (d : Command). Some d.kind) same ∙ o.kind_is,
            ap (λ (d : Command). d.bank) same ∙ o.bank_is ∙ ap (λ (f : ℕ → ℕ → ℕ). f o.request.bank o.request.row) t.constant.shape_is.names_same,
            ap (λ (d : Command). d.row) same ∙ o.row_is,
            ap (λ (d : Command). d.column) same ∙ o.column_is,
          );
    }

ticked_asked : (start : Machine) (before : List Exchange) (m : Machine) (e : Event) (c : Command) (n : Machine) → Told start before m → Step m e (ticked (Some c)) n → AskedFor start before c
ticked_asked start before m (offer q) c n t s = absurd s
ticked_asked start before m tick c n t s =
    let h = halves m (Some c) n s in
    let f = sent_for (begun m h.policy_clock h.entries h.now) (Origin m.policy.bank_name before) h.now h.entries c n.service h.goes
    (subst (λ (es : List Entry). AllByRecursion (Origin m.policy.bank_name before) es) (sym (same_unserved m h.entries h.now h.begins)) t.origin) in
    asked_for start before m f.0 c t f.1 f.2

pub accounted_for : WheneverOpened AccountedFor
accounted_for s k last p f log n c before rest e d whole =
    let cut = chain_cut before rest (record { event = e; answer = ticked (Some d) }) (opened s k last p) n (subst (λ (l : List Exchange). Chain (opened s k last p) l n) whole c) in
    ticked_asked (opened s k last p) before cut.here e d cut.next (logged s k last p f before cut.here cut.to_here).told cut.step

-- no unserved entry's deadline has passed
waiting_late : (clock span base : ℕ) (es : List Entry) → clock ≤ base + span → Timely span base es → AllByRecursion (λ e. clock ≤ e.deadline) es
waiting_late clock span base [] l t = tt
waiting_late clock span base (e ∷ es) l t = (omega (arith, t.0), waiting_late clock span (base + span) es (omega arith) t.1)

late_by : (m : Machine) (o : Option Service) → Running m → Staged m o → Timely m.policy.span (base_at m.clock m.policy.span o) m.policy.waiting → AllByRecursion (λ e. m.clock ≤ e.deadline) (unserved_of o m.policy.waiting)
late_by m None r g t = waiting_late m.clock m.policy.span (m.clock - 1) m.policy.waiting (omega (arith, r.shaped.span_bound)) t
late_by m (Some s) r g t =
    let within = within_span m s g r.span_fits in
    (omega (arith, g.in_time), waiting_late m.clock m.policy.span ((s.start + m.policy.span) - 1) m.policy.waiting (omega arith) t)

pub unserved_late : (m : Machine) → Running m → AllByRecursion (λ e. m.clock ≤ e.deadline) (unserved m)
unserved_late m r = late_by m m.service r r.stage r.timely

-- an entry with a deadline not yet passed is not the request whose deadline passed
not_this : (clock : ℕ) (log : List Exchange) (q : Request) (i d : ℕ) → AcceptedIn log q i d → d < clock → (es : List Entry) → AllByRecursion (Due log) es → AllByRecursion (λ e. clock ≤ e.deadline) es → AllByRecursion (λ e. e.requester ≡ q.requester → e.number ≡ i → ⊥) es
not_this clock log q i d a past [] h l = tt
not_this clock log q i d a past (e ∷ es) h l = (λ whose which. omega (arith, h.0 q i d a whose which, l.0), not_this clock log q i d a past es h.1 l.1)

pub served_once_in_time : WheneverOpened ServedOnceInTime
served_once_in_time s k last p f log n c q i d a =
    let l = logged s k last p f log n c in
    let t = l.told in
    let balance : pending q.requester i (unserved n) + served q.requester i (commands log) ≡ 1 =
    ap (λ (h : List Command). pending q.requester i (unserved n) + served q.requester i h) (sym t.trace_is) ∙ t.balanced q.requester i ∙ given_below i (n.accepted q.requester) (t.numbered q i d a) in (
      omega arith,
      λ past.
          let none = none_pending q.requester i (unserved n) (not_this n.clock log q i d a past (unserved n) t.due (unserved_late n l.runs.0)) in
          omega arith,
    )
