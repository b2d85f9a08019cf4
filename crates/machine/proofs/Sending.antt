-- A tick in the log: what is sent moves from the unserved entries into the trace.
use Rattle.std.proofs.Common.{◌≡◌, ℕ, Bool, true, false, cond, eqb, List, [], ◌∷◌, ◌++◌, Some, None, Option, sym, refl, ap, ◌∙◌, subst, arith}
use Rattle.std.specs.List.{AllByRecursion}
use Rattle.std.proofs.ByRecursion.{All-weaker}
use Rattle.rulebook.specs.declared.command.Command.{Command}
use Rattle.rulebook.specs.Book.{open_row}
use Rattle.policy.specs.declared.entry.Entry.{Entry}
use Rattle.machine.specs.Machine.{Service, Machine, Goes, next_from, column_for, precharge_for, tick, ticked, Exchange, extended}
use Rattle.machine.proofs.Steps.{begun, sent, Begins, running, idle, given, Halves}
use Rattle.machine.proofs.Running.{unserved_of, unserved}
use Rattle.machine.proofs.Serving.{all_left}
use Rattle.machine.proofs.Logs.{commands_more, ticks_more}
use Rattle.machine.proofs.Ledger.{Balanced, balanced_sent}
use Rattle.machine.proofs.Told.{Origin, Due, constant_changed, constant_sent, Told, longer_origin, no_ticked, longer_due, longer_numbered}

-- taking a turn leaves the list of unserved entries as it is
pub same_unserved : (m : Machine) (es : List Entry) (now : Option Service) → Begins m es now → unserved_of now es ≡ unserved m
same_unserved m es now (running s v w is) = λ i. unserved_of ((is ∙ sym v) i) (w i)
same_unserved m es now (idle v w is late) = λ i. unserved_of ((is ∙ sym v) i) (w i)
same_unserved m es now (given e v w is on) = ap (λ (o : Option Service). unserved_of o es) is ∙ sym w ∙ sym (ap (λ (o : Option Service). unserved_of o m.policy.waiting) v)

-- the next command carries its request's name
open_names : (b : Bool) (clock : ℕ) (e : Entry) → ((cond {A = Command} b (column_for clock e) (precharge_for clock e)).requester ≡ e.requester) × ((cond {A = Command} b (column_for clock e) (precharge_for clock e)).number ≡ e.number)
open_names true clock e = (refl, refl)
open_names false clock e = (refl, refl)

pub next_names : (o : Option ℕ) (clock : ℕ) (e : Entry) → ((next_from o clock e).requester ≡ e.requester) × ((next_from o clock e).number ≡ e.number)
next_names None clock e = (refl, refl)
next_names (Some row) clock e = open_names (eqb row e.row) clock e

-- what is left unserved by what goes out was unserved before
pub left_all : (P : Entry → Type 0) (m : Machine) (now : Option Service) (es : List Entry) (answer : Option Command) (then : Option Service) → Goes m now answer then → AllByRecursion P (unserved_of now es) → AllByRecursion P (unserved_of then es)
left_all P m None es None then g a = subst (λ (o : Option Service). AllByRecursion P (unserved_of o es)) (sym g) a
left_all P m None es (Some c) then g a = absurd g
left_all P m (Some s) es None then g a = subst (λ (o : Option Service). AllByRecursion P (unserved_of o es)) (sym g.1) a
left_all P m (Some s) es (Some c) then g a = subst (λ (o : Option Service). AllByRecursion P (unserved_of o es)) (sym g.2) (all_left P c.kind s es a)

left_balanced : (m : Machine) (now : Option Service) (es : List Entry) (answer : Option Command) (then : Option Service) → Goes m now answer then → Balanced (unserved_of now es) m.trace m.accepted → Balanced (unserved_of then es) (extended m.trace answer) m.accepted
left_balanced m None es None then g b = subst (λ (o : Option Service). Balanced (unserved_of o es) m.trace m.accepted) (sym g) b
left_balanced m None es (Some c) then g b = absurd g
left_balanced m (Some s) es None then g b = subst (λ (o : Option Service). Balanced (unserved_of o es) m.trace m.accepted) (sym g.1) b
left_balanced m (Some s) es (Some c) then g b =
    let n = next_names (open_row s.entry.bank m.trace) m.clock s.entry in
    subst (λ (o : Option Service). Balanced (unserved_of o es) (m.trace ++ (c ∷ [])) m.accepted) (sym g.2)
    (balanced_sent s es m.trace m.accepted c (ap (λ (d : Command). d.requester) g.0 ∙ n.0) (ap (λ (d : Command). d.number) g.0 ∙ n.1) b)

-- a tick
sent_told : (start : Machine) (log : List Exchange) (m : Machine) (answer : Option Command) (then : Option Service) (pc : ℕ) (es : List Entry) (now : Option Service) → Begins m es now → Goes (begun m pc es now) now answer then → Told start log m →
    Told start (log ++ (record { event = tick; answer = ticked answer } ∷ [])) (sent (begun m pc es now) answer then)
sent_told start log m answer then pc es now b g t =
    let x : Exchange = record { event = tick; answer = ticked answer } in
    let k : Machine = begun m pc es now in
    let whole = sym (same_unserved m es now b) in
    let names = m.policy.bank_name in
    record {
      constant = constant_sent start k answer then (constant_changed start m pc es now m.accepted t.constant);
      clock_is = omega (arith, t.clock_is, ticks_more log x);
      trace_is = ap (λ (h : List Command). extended h answer) t.trace_is ∙ sym (commands_more log x);
      origin = left_all (Origin names (log ++ (x ∷ []))) k now es answer then g (All-weaker (Origin names log) (Origin names (log ++ (x ∷ []))) (longer_origin names log x) (unserved_of now es) (subst (λ (xs : List Entry). AllByRecursion (Origin names log) xs) whole t.origin));
      balanced = left_balanced k now es answer then g (subst (λ (xs : List Entry). Balanced xs m.trace m.accepted) whole t.balanced);
      numbered = longer_numbered log x m.accepted (no_ticked tick answer) t.numbered;
      due = left_all (Due (log ++ (x ∷ []))) k now es answer then g (All-weaker (Due log) (Due (log ++ (x ∷ []))) (λ y. longer_due log x y (no_ticked tick answer)) (unserved_of now es) (subst (λ (xs : List Entry). AllByRecursion (Due log) xs) whole t.due));
    }

pub ticked_told : (start : Machine) (log : List Exchange) (m : Machine) (answer : Option Command) (n : Machine) → Halves m answer n → Told start log m → Told start (log ++ (record { event = tick; answer = ticked answer } ∷ [])) n
ticked_told start log m answer n h t = subst (λ (k : Machine). Told start (log ++ (record { event = tick; answer = ticked answer } ∷ [])) k) (sym h.ends) (sent_told start log m answer n.service h.policy_clock h.entries h.now h.begins h.goes t)
