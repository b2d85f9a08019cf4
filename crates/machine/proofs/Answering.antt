-- A tick can always be answered: whether the next command is ready is decided by the compact record of the trace.
use Rattle.std.proofs.Common.{◌≡◌, ℕ, zero, suc, ◌+◌, Bool, true, ◌⊎◌, List, [], ◌∷◌, ◌++◌, get_or, replicate, Some, None, Ok, Err, Option, Result, sym, refl, subst, inl, inr, append_assoc, append-nil, arith}
use Rattle.std.proofs.lemmas.Bool.{both_ways, cases_eq, cases_Bool}
use Rattle.sheet.specs.declared.accepted.Sheet.{Sheet}
use Rattle.sheet.specs.declared.geometry.Chip.{Chip}
use Rattle.rulebook.specs.declared.command.Command.{Command}
use Rattle.rulebook.specs.declared.command.Kind.{Kind}
use Rattle.rulebook.specs.declared.command.Kind.TheVariants.{Idle, Activate, Precharge, Read, Write}
use Rattle.rulebook.specs.declared.rule.Rule.{Rule}
use Rattle.rulebook.specs.declared.rule.Rule.TheVariants.{CyclesRise, InsideChip}
use Rattle.rulebook.specs.declared.bank.BankRecord.{BankRecord}
use Rattle.rulebook.specs.declared.book.Book.{Book}
use Rattle.rulebook.specs.Book.{Column, Obeys}
use Rattle.rulebook.specs.Record.{no_bank, no_book, book_with}
use Rattle.rulebook.specs.Answer.{answer_to, book_after}
use Rattle.rulebook.specs.Summary.{BankSummarises, Summarises, Answered}
use Rattle.rulebook.proofs.Recorded.{summary_more}
use Rattle.rulebook.proofs.Judged.{judged}
use Rattle.policy.specs.declared.entry.Entry.{Entry}
use Rattle.policy.specs.Meaning.{Meaning, Turned}
use Rattle.machine.specs.Machine.{Service, Machine, next_command, Ready, Goes, stays_after, started, InService, extended}
use Rattle.machine.specs.Answering.{AlwaysAnswers}
use Rattle.machine.specs.Opens.{WheneverOpened}
use Rattle.machine.proofs.Logged.{logged}

-- the empty record summarises the empty trace
same_filled : (n i : ℕ) (b : BankRecord) → get_or (replicate n b) i b ≡ b
same_filled zero i b = refl
same_filled (suc n) zero b = refl
same_filled (suc n) (suc i) b = same_filled n i b

pub nothing_summarised : Summarises [] no_book
nothing_summarised = record {
  latest_is = tt;
  sixteen = refl;
  banks_are = λ i l. subst (λ (b : BankRecord). BankSummarises [] i b) (sym (same_filled 16 i no_bank)) (record { open_is = refl; activate_is = tt; precharge_is = tt; read_is = tt; write_is = tt });
  read_is = tt;
  write_is = tt;
  recent_is = refl;
}

-- every trace that obeys has its record
summary_from : (s : Sheet) (k : Chip) (front rest : List Command) → Obeys s k (front ++ rest) → (b : Book) × Summarises front b → (b : Book) × Summarises (front ++ rest) b
summary_from s k front [] o p = (p.0, subst (λ (h : List Command). Summarises h p.0) (sym (append-nil front)) p.1)
summary_from s k front (c ∷ rest) o p =
    let lawful = o front c rest refl in
    let whole = append_assoc front (c ∷ []) rest in
    let q = summary_from s k (front ++ (c ∷ [])) rest (subst (λ (h : List Command). Obeys s k h) (sym whole) o)
    (book_with p.0 c, summary_more front c p.0 (lawful CyclesRise) (omega (arith, (lawful InsideChip).0, k.banks_in)) p.1) in
    (q.0, subst (λ (h : List Command). Summarises h q.0) whole q.1)

-- so whether a longer trace obeys is decided
decide_by : (s : Sheet) (k : Chip) (h : List Command) (c : Command) (r : Result Unit Rule) (b : Book) → Answered s k h c r b → Obeys s k (h ++ (c ∷ [])) ⊎ (Obeys s k (h ++ (c ∷ [])) → ⊥)
decide_by s k h c (Ok u) b a = inl a.0
decide_by s k h c (Err r) b a = inr a.0

decides : (s : Sheet) (k : Chip) (h : List Command) (c : Command) → Obeys s k h → Obeys s k (h ++ (c ∷ [])) ⊎ (Obeys s k (h ++ (c ∷ [])) → ⊥)
decides s k h c o =
    let b = summary_from s k [] h o (no_book, nothing_summarised) in
    decide_by s k h c (answer_to s k b.0 c) (book_after s k b.0 c) (judged s k b.0 c (answer_to s k b.0 c) (book_after s k b.0 c) refl refl h b.1 o)

column_or_not : (k : Kind) → Column k ⊎ (Column k → ⊥)
column_or_not Idle = inr (λ x. x)
column_or_not Activate = inr (λ x. x)
column_or_not Precharge = inr (λ x. x)
column_or_not Read = inl tt
column_or_not Write = inl tt

-- whether the next command is held back is decided too
held_or_not : (holds : Bool) (k : Kind) (clock deadline : ℕ) → (holds ≡ true → Column k → clock ≡ deadline) ⊎ ((holds ≡ true → Column k → clock ≡ deadline) → ⊥)
held_or_not holds k clock deadline = elim (cases_eq clock deadline) [
  | inl e ↦ inl (λ _ _. e)
  | inr u ↦ elim (cases_Bool holds) [
    | inr f ↦ inl (λ t _. absurd (both_ways holds f t))
    | inl t ↦ elim (column_or_not k) [
      | inl c ↦ inr (λ f. u (f t c))
      | inr n ↦ inl (λ _ c. absurd (n c))
    ]
  ]
]

ready_or_not : (m : Machine) (e : Entry) → Obeys m.sheet m.chip m.trace → Ready m e ⊎ (Ready m e → ⊥)
ready_or_not m e o = elim (decides m.sheet m.chip m.trace (next_command m e) o) [
  | inl y ↦ elim (held_or_not m.policy.holds (next_command m e).kind m.clock e.deadline) [
    | inl h ↦ inl (y, h)
    | inr n ↦ inr (λ r. n r.1)
  ]
  | inr n ↦ inr (λ r. n r.0)
]

-- what goes out for what is in service
something_goes : (m : Machine) (now : Option Service) → Obeys m.sheet m.chip m.trace → (answer : Option Command) × (then : Option Service) × Goes m now answer then
something_goes m None o = (None, None, refl)
something_goes m (Some s) o = elim (ready_or_not m s.entry o) [
  | inl r ↦ (Some (next_command m s.entry), stays_after (next_command m s.entry).kind s, (refl, r, refl))
  | inr n ↦ (None, Some s, (n, refl))
]

-- what is in service in this cycle
something_served : (m : Machine) (o : Option Service) (given : Option Entry) (after : Meaning) → m.service ≡ o → (m.service ≡ None → Turned m.policy m.clock given after) → (now : Option Service) × (then : Meaning) × InService m o now then
something_served m (Some s) given after w t = (Some s, m.policy, (refl, refl))
something_served m None given after w t = (started m.clock given, after, (given, t w, refl))

pub always_answers : WheneverOpened AlwaysAnswers
always_answers s k last p f log n c on given after turn =
    let l = logged s k last p f log n c in
    let b = something_served n n.service given after refl turn in
    let g = something_goes n b.0 l.runs.0.obeys in (
      g.0,
      record { sheet = n.sheet; chip = n.chip; last = n.last; policy = b.1; clock = n.clock + 1; service = g.1; accepted = n.accepted; trace = extended n.trace g.0 },
      record {
        running = on;
        now_served = b.0;
        in_service = b.2;
        goes = g.2;
        clock_rises = refl;
        trace_grows = refl;
        rest_same = (refl, refl, refl, refl);
      },
    )
