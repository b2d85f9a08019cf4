-- What the engine sends is what goes out of the machine.
use Rattle.std.proofs.Common.{◌≡◌, ℕ, ◌<◌, Bool, true, false, cond, not, ◌&&◌, eqb, ltb, List, [], ◌∷◌, ◌++◌, get_or, Some, None, Option, sym, refl, ap, ◌∙◌, subst, arith}
use Rattle.std.proofs.lemmas.Bool.{eqb-true, eqb-false, and_parts, not-true, not-false, lt-ltb, cond-true}
use Rattle.sheet.specs.declared.geometry.Chip.{Chip}
use Rattle.rulebook.specs.declared.command.Command.{Command}
use Rattle.rulebook.specs.declared.rule.Rule.{Rule}
use Rattle.rulebook.specs.declared.book.Book.{Book}
use Rattle.rulebook.specs.Book.{Obeys, Column, open_row}
use Rattle.rulebook.specs.Record.{no_bank, book_with, open_row_of}
use Rattle.rulebook.specs.Summary.{Summarises, Answered}
use Rattle.rulebook.specs.Answer.{broken_rule, answer_by, book_by, answer_to, book_after}
use Rattle.rulebook.proofs.Judged.{judged}
use Rattle.policy.specs.declared.entry.Entry.{Entry}
use Rattle.machine.specs.Machine.{Service as Served, Machine, precharge_for, column_for, next_from, next_command, stays_after, Goes, extended}
use Rattle.machine.proofs.Stages.{Proper, column_ends}
use Rattle.controller.specs.declared.stage.Service.{Service}
use Rattle.controller.specs.declared.stage.Stage.{Stage}
use Rattle.controller.specs.declared.stage.Stage.TheVariants.{Idle, Serving}
use Rattle.controller.specs.declared.stage.RowState.{RowState}
use Rattle.controller.specs.declared.stage.RowState.TheVariants.{Here, Other, Closed}
use Rattle.controller.specs.Engine.{row_state, state_of, next_in, held_back, if_lawful, stage_with, sent_for, book_for, sent_in, book_in, stage_in}
use Rattle.controller.specs.Session.{service_of}

-- the machine's word for a service
abbrev served : Service → Served
served v = record { entry = v.entry; start = v.start }

-- what goes out, what stays in service, and that the record stands for the trace with it
abbrev Gone : Machine → Served → Option Command → Option Served → Book → Type 0
Gone m s o then b = Goes m (Some s) o then × Summarises (extended m.trace o) b

-- a command that is not held back goes out exactly where the record admits it
by_rule : (m : Machine) (s : Served) (b : Book) (c : Command) (then : Option Command → Option Served) (o : Option Rule) → c ≡ next_command m s.entry → (m.policy.holds ≡ true → Column c.kind → m.clock ≡ s.entry.deadline) →
    then (Some c) ≡ stays_after c.kind s → then None ≡ Some s → Summarises m.trace b → Answered m.sheet m.chip m.trace c (answer_by o) (book_by o b (book_with b c)) →
    Gone m s (if_lawful (answer_by o) c) (then (if_lawful (answer_by o) c)) (book_by o b (book_with b c))
by_rule m s b c then None next due ends stays sum a =
    ((next, subst (λ (d : Command). Obeys m.sheet m.chip (m.trace ++ (d ∷ [])) × (m.policy.holds ≡ true → Column d.kind → m.clock ≡ s.entry.deadline)) next (a.0, due), ends), a.1)
by_rule m s b c then (Some r) next due ends stays sum a =
    ((λ ready. a.0 (subst (λ (d : Command). Obeys m.sheet m.chip (m.trace ++ (d ∷ []))) (sym next) ready.0), stays), sum)

admitted : (m : Machine) (s : Served) (b : Book) (c : Command) (then : Option Command → Option Served) → c ≡ next_command m s.entry → (m.policy.holds ≡ true → Column c.kind → m.clock ≡ s.entry.deadline) →
    then (Some c) ≡ stays_after c.kind s → then None ≡ Some s → Summarises m.trace b → Obeys m.sheet m.chip m.trace →
    Gone m s (if_lawful (answer_to m.sheet m.chip b c) c) (then (if_lawful (answer_to m.sheet m.chip b c) c)) (book_after m.sheet m.chip b c)
admitted m s b c then next due ends stays sum obeys =
    by_rule m s b c then (broken_rule m.sheet m.chip b c) next due ends stays sum
    (judged m.sheet m.chip b c (answer_to m.sheet m.chip b c) (book_after m.sheet m.chip b c) refl refl m.trace sum obeys)

-- a column command waits while it is held back
column_gone : (m : Machine) (v : Service) (b : Book) (held : Bool) → held ≡ held_back Here m.policy.holds m.clock v.entry → next_in Here m.clock v.entry ≡ next_command m v.entry → Column v.entry.kind → Summarises m.trace b → Obeys m.sheet m.chip m.trace →
    Gone m (served v)
    (cond held None (if_lawful (answer_to m.sheet m.chip b (next_in Here m.clock v.entry)) (next_in Here m.clock v.entry)))
    (service_of (stage_with Here (cond held None (if_lawful (answer_to m.sheet m.chip b (next_in Here m.clock v.entry)) (next_in Here m.clock v.entry))) (Serving v)))
    (cond held b (book_after m.sheet m.chip b (next_in Here m.clock v.entry)))
column_gone m v b true h next moves sum obeys =
    let both = and_parts m.policy.holds (not (eqb m.clock v.entry.deadline)) (sym h) in
    let early : m.clock ≡ v.entry.deadline → ⊥ = eqb-false m.clock v.entry.deadline (not-true (eqb m.clock v.entry.deadline) both.1) in
    ((λ ready. early (ready.1 both.0 (subst (λ (d : Command). Column d.kind) next moves)), refl), sum)
column_gone m v b false h next moves sum obeys =
    admitted m (served v) b (next_in Here m.clock v.entry) (λ o. service_of (stage_with Here o (Serving v))) next
    (λ holds col. eqb-true m.clock v.entry.deadline (not-false (eqb m.clock v.entry.deadline) (ap (λ (x : Bool). x && not (eqb m.clock v.entry.deadline)) (sym holds) ∙ sym h)))
    (sym (column_ends v.entry.kind (served v) moves)) refl sum obeys

serving_gone : (m : Machine) (v : Service) (b : Book) (row : RowState) → next_in row m.clock v.entry ≡ next_command m v.entry → Column v.entry.kind → Summarises m.trace b → Obeys m.sheet m.chip m.trace →
    Gone m (served v) (sent_for row m.sheet m.chip m.policy.holds m.clock b v.entry)
    (service_of (stage_with row (sent_for row m.sheet m.chip m.policy.holds m.clock b v.entry) (Serving v)))
    (book_for row m.sheet m.chip m.policy.holds m.clock b v.entry)
serving_gone m v b Here next moves sum obeys = column_gone m v b (held_back Here m.policy.holds m.clock v.entry) refl next moves sum obeys
serving_gone m v b Other next moves sum obeys = admitted m (served v) b (next_in Other m.clock v.entry) (λ o. service_of (stage_with Other o (Serving v))) next (λ holds col. absurd col) refl refl sum obeys
serving_gone m v b Closed next moves sum obeys = admitted m (served v) b (next_in Closed m.clock v.entry) (λ o. service_of (stage_with Closed o (Serving v))) next (λ holds col. absurd col) refl refl sum obeys

-- the engine's word for what a request does next, and the machine's
next_alike : (o : Option ℕ) (clock : ℕ) (e : Entry) → next_in (row_state o e.row) clock e ≡ next_from o clock e
next_alike None clock e = refl
next_alike (Some r) clock e = elim (eqb r e.row) as (λ b. next_in (cond b Here Other) clock e ≡ cond b (column_for clock e) (precharge_for clock e)) [ true ↦ refl | false ↦ refl ]

-- the record's open row is that of the trace
open_alike : (h : List Command) (b : Book) (i : ℕ) → i < 16 → Summarises h b → open_row_of b i ≡ open_row i h
open_alike h b i lt sum = cond-true (ltb i 16) (get_or b.banks i no_bank).open_row None (lt-ltb i 16 lt) ∙ (sum.banks_are i lt).open_is

-- what is in service can be served
abbrev pub Fit : Chip → Stage → Type 0
Fit k Idle = Unit {0}
Fit k (Serving v) = Proper k v.entry

pub gone : (m : Machine) (g : Stage) (b : Book) → Fit m.chip g → Summarises m.trace b → Obeys m.sheet m.chip m.trace →
    Goes m (service_of g) (sent_in g (state_of g b) m.sheet m.chip m.policy.holds m.clock b) (service_of (stage_in g (state_of g b) (sent_in g (state_of g b) m.sheet m.chip m.policy.holds m.clock b)))
    × Summarises (extended m.trace (sent_in g (state_of g b) m.sheet m.chip m.policy.holds m.clock b)) (book_in g (state_of g b) m.sheet m.chip m.policy.holds m.clock b)
gone m Idle b fit sum obeys = (refl, sum)
gone m (Serving v) b fit sum obeys =
    let open_is = open_alike m.trace b v.entry.bank (omega (arith, fit.bank_in, m.chip.banks_in)) sum in
    serving_gone m v b (state_of (Serving v) b) (next_alike (open_row_of b v.entry.bank) m.clock v.entry ∙ ap (λ (o : Option ℕ). next_from o m.clock v.entry) open_is) fit.moves sum obeys
