-- What a machine keeps of the log that led to it: clock, trace, where each unserved entry comes from, the ledger, numbers and deadlines.
use Rattle.std.proofs.Common.{◌≡◌, ℕ, ◌+◌, ◌<◌, ltb, List, [], ◌∷◌, ◌++◌, Some, Option, sym, refl, ap, ◌∙◌, subst, inl, inr, arith}
use Rattle.std.specs.List.{AllByRecursion}
use Rattle.std.proofs.ByRecursion.{All-weaker}
use Rattle.std.proofs.lemmas.Bool.{le-ltb, cond-false}
use Rattle.sheet.specs.declared.accepted.Sheet.{Sheet}
use Rattle.sheet.specs.declared.geometry.Chip.{Chip}
use Rattle.rulebook.specs.declared.command.Command.{Command}
use Rattle.rulebook.proofs.Lists.{no_element}
use Rattle.policy.specs.declared.entry.Request.{Request}
use Rattle.policy.specs.declared.entry.Entry.{Entry}
use Rattle.policy.specs.Meaning.{Meaning, SameShape}
use Rattle.machine.specs.Machine.{Service, Machine, opened, asked_kind, Event, offer, accepted, ticked, refused, Exchange}
use Rattle.machine.specs.Promises.{commands, ticks, AcceptedIn}
use Rattle.machine.proofs.Steps.{changed, sent}
use Rattle.machine.proofs.Running.{unserved}
use Rattle.machine.proofs.Logs.{commands_more, ticks_more, accepted_longer, accepted_cut}
use Rattle.machine.proofs.Ledger.{Balanced}

-- the accepted offer that an entry comes from
pub record Origin (names : ℕ → ℕ → ℕ) (log : List Exchange) (e : Entry) : Type 0 where
  pub request : Request
  pub was_accepted : AcceptedIn log request e.number e.deadline
  pub requester_is : e.requester ≡ request.requester
  pub kind_is : Some e.kind ≡ asked_kind request.kind
  pub bank_is : e.bank ≡ names request.bank request.row
  pub row_is : e.row ≡ request.row
  pub column_is : e.column ≡ request.column

-- an accepted offer with the name of an entry has its deadline
abbrev pub Due : List Exchange → Entry → Type 0
Due log e = (q : Request) (i d : ℕ) → AcceptedIn log q i d → e.requester ≡ q.requester → e.number ≡ i → e.deadline ≡ d

-- numbers given out in a log are below the counts
abbrev pub Numbered : List Exchange → (ℕ → ℕ) → Type 0
Numbered log counts = (q : Request) (i d : ℕ) → AcceptedIn log q i d → i < counts q.requester

-- what no call changes
pub record Constant (start m : Machine) : Type 0 where
  pub sheet_is : m.sheet ≡ start.sheet
  pub chip_is : m.chip ≡ start.chip
  pub last_is : m.last ≡ start.last
  pub shape_is : SameShape start.policy m.policy

same_shape : (p : Meaning) → SameShape p p
same_shape p = record { requesters_same = refl; places_same = refl; span_same = refl; banks_same = refl; reach_same = refl; holds_same = refl; names_same = refl; order_same = refl }

pub constant_changed : (start m : Machine) (pc : ℕ) (es : List Entry) (now : Option Service) (counts : ℕ → ℕ) → Constant start m → Constant start (changed m pc es now counts)
constant_changed start m pc es now counts c = record {
  sheet_is = c.sheet_is;
  chip_is = c.chip_is;
  last_is = c.last_is;
  shape_is = record {
    requesters_same = c.shape_is.requesters_same;
    places_same = c.shape_is.places_same;
    span_same = c.shape_is.span_same;
    banks_same = c.shape_is.banks_same;
    reach_same = c.shape_is.reach_same;
    holds_same = c.shape_is.holds_same;
    names_same = c.shape_is.names_same;
    order_same = c.shape_is.order_same;
  };
}

pub constant_sent : (start m : Machine) (answer : Option Command) (then : Option Service) → Constant start m → Constant start (sent m answer then)
constant_sent start m answer then c = record { sheet_is = c.sheet_is; chip_is = c.chip_is; last_is = c.last_is; shape_is = c.shape_is }

pub constant_opened : (m : Machine) → Constant m m
constant_opened m = record { sheet_is = refl; chip_is = refl; last_is = refl; shape_is = same_shape m.policy }

-- the log's part
pub record Told (start : Machine) (log : List Exchange) (m : Machine) : Type 0 where
  pub constant : Constant start m
  pub clock_is : m.clock ≡ 1 + ticks log
  pub trace_is : m.trace ≡ commands log
  pub origin : AllByRecursion (Origin m.policy.bank_name log) (unserved m)
  pub balanced : Balanced (unserved m) m.trace m.accepted
  pub numbered : Numbered log m.accepted
  pub due : AllByRecursion (Due log) (unserved m)

pub opened_told : (s : Sheet) (k : Chip) (last : ℕ) (p : Meaning) → p.waiting ≡ [] → Told (opened s k last p) [] (opened s k last p)
opened_told s k last p empty = record {
  constant = constant_opened (opened s k last p);
  clock_is = refl;
  trace_is = refl;
  origin = subst (λ (es : List Entry). AllByRecursion (Origin p.bank_name []) es) (sym empty) tt;
  balanced = subst (λ (es : List Entry). Balanced es [] (λ _. 0)) (sym empty) (λ r i. omega (arith, cond-false {A = ℕ} (ltb i 0) 1 0 (le-ltb i 0 (omega arith))));
  numbered = λ q i d a. absurd (no_element a.0 (record { event = offer q; answer = accepted i d }) a.1 a.2);
  due = subst (λ (es : List Entry). AllByRecursion (Due []) es) (sym empty) tt;
}

-- an exchange that is no acceptance
pub longer_origin : (names : ℕ → ℕ → ℕ) (log : List Exchange) (x : Exchange) (e : Entry) → Origin names log e → Origin names (log ++ (x ∷ [])) e
longer_origin names log x e o = record {
  request = o.request;
  was_accepted = accepted_longer log x o.request e.number e.deadline o.was_accepted;
  requester_is = o.requester_is;
  kind_is = o.kind_is;
  bank_is = o.bank_is;
  row_is = o.row_is;
  column_is = o.column_is;
}

abbrev NoAcceptance : Exchange → Type 0
NoAcceptance x = (q : Request) (i d : ℕ) → x ≡ record { event = offer q; answer = accepted i d } → ⊥

pub answered_accepted : (x : Exchange) (q : Request) (i d : ℕ) → x ≡ record { event = offer q; answer = accepted i d } → x.answer ≡ accepted i d
answered_accepted x q i d e = ap (λ (y : Exchange). y.answer) e

no_refused : (e : Event) (why : ℕ) → NoAcceptance (record { event = e; answer = refused why })
no_refused e why q i d w =
    let a : refused why ≡ accepted i d = answered_accepted (record { event = e; answer = refused why }) q i d w in
    cc

pub no_ticked : (e : Event) (c : Option Command) → NoAcceptance (record { event = e; answer = ticked c })
no_ticked e c q i d w =
    let a : ticked c ≡ accepted i d = answered_accepted (record { event = e; answer = ticked c }) q i d w in
    cc

pub longer_due : (log : List Exchange) (x : Exchange) (e : Entry) → NoAcceptance x → Due log e → Due (log ++ (x ∷ [])) e
longer_due log x e n h q i d a whose which = elim (accepted_cut log x q i d a) [ inl w ↦ absurd (n q i d w) | inr b ↦ h q i d b whose which ]

pub longer_numbered : (log : List Exchange) (x : Exchange) (counts : ℕ → ℕ) → NoAcceptance x → Numbered log counts → Numbered (log ++ (x ∷ [])) counts
longer_numbered log x counts n h q i d a = elim (accepted_cut log x q i d a) [ inl w ↦ absurd (n q i d w) | inr b ↦ h q i d b ]

-- a refusal
pub refused_told : (start : Machine) (log : List Exchange) (m : Machine) (e : Event) (why : ℕ) → Told start log m → Told start (log ++ (record { event = e; answer = refused why } ∷ [])) m
refused_told start log m e why t =
    let x : Exchange = record { event = e; answer = refused why } in
    record {
      constant = t.constant;
      clock_is = omega (arith, t.clock_is, ticks_more log x);
      trace_is = t.trace_is ∙ sym (commands_more log x);
      origin = All-weaker (Origin m.policy.bank_name log) (Origin m.policy.bank_name (log ++ (x ∷ []))) (longer_origin m.policy.bank_name log x) (unserved m) t.origin;
      balanced = t.balanced;
      numbered = longer_numbered log x m.accepted (no_refused e why) t.numbered;
      due = All-weaker (Due log) (Due (log ++ (x ∷ []))) (λ y. longer_due log x y (no_refused e why)) (unserved m) t.due;
    }
