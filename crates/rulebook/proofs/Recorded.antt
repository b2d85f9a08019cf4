-- One more command taken in: the record summarises the longer history.
use Rattle.std.proofs.Common.{◌≡◌, ℕ, ◌<◌, ◌≤◌, Bool, true, false, cond, ◌≢◌, List, [], ◌∷◌, ◌++◌, reverse, get_or, set, Some, None, Option, sym, refl, ap, ◌∙◌, subst, inl, inr, append-nil, arith, length-set, get_or-set_other, get_or-set_same}
use mathlib.Core.List.{reverse-append}
use Rattle.std.proofs.lemmas.Bool.{eq-eqb, ne_eqb, cases_eq}
use Rattle.rulebook.specs.declared.command.Command.{Command}
use Rattle.rulebook.specs.declared.command.Kind.{Kind}
use Rattle.rulebook.specs.declared.command.Kind.TheVariants.{Activate, Precharge, Read, Write}
use Rattle.rulebook.specs.declared.bank.BankRecord.{BankRecord}
use Rattle.rulebook.specs.declared.bank.Recent.{Recent}
use Rattle.rulebook.specs.declared.book.Book.{Book}
use Rattle.rulebook.specs.Kinds.{same_kind}
use Rattle.rulebook.specs.Book.{Every, Of, At, row_after, opened_by, opened_from, open_row, activates}
use Rattle.rulebook.specs.Record.{no_bank, noted, bank_after, recent_with, recent_after, bank_of, book_with}
use Rattle.rulebook.specs.Summary.{Latest, BankSummarises, first_four, Summarises}
use Rattle.rulebook.proofs.Lists.{every_map, every_last, every_front, every_at}
use Rattle.rulebook.proofs.Told.{Asks, asks_map, asks_kind}

-- the latest of a sort: this command if it is of that sort, else as before
pub latest_more : (P : Command → Type 0) (h : List Command) (c : Command) (b : Bool) (o : Option ℕ) → Asks b (P c) → Every (λ a. a.cycle < c.cycle) h → Latest P h o →
    Latest P (h ++ (c ∷ [])) (cond b (Some c.cycle) o)
latest_more P h c true o is rises l = (
  every_last (λ a. P a → a.cycle ≤ c.cycle) h c (every_map {P = λ a. a.cycle < c.cycle} (λ a lt p. omega arith) h rises) (λ p. omega arith),
  λ all. let lt : c.cycle < c.cycle = every_at (λ a. P a → a.cycle < c.cycle) h c [] all is in omega arith,
)
latest_more P h c false None not_so rises l = every_last (λ a. P a → ⊥) h c l not_so
latest_more P h c false (Some e) not_so rises l = (
  every_last (λ a. P a → a.cycle ≤ e) h c l.0 (λ p. absurd (not_so p)),
  λ all. l.1 (every_front (λ a. P a → a.cycle < e) h (c ∷ []) all),
)

-- the open row of each bank
pub opened_more : (i : ℕ) (was : Option ℕ) (h : List Command) (c : Command) → opened_from i was (h ++ (c ∷ [])) ≡ opened_by i (opened_from i was h) c
opened_more i was [] c = refl
opened_more i was (x ∷ xs) c = opened_more i (opened_by i was x) xs c

pub opened_here : (i : ℕ) (was : Option ℕ) (c : Command) → c.bank ≡ i → opened_by i was c ≡ row_after c.kind c.row was
opened_here i was c here = ap (λ (b : Bool). cond b (row_after c.kind c.row was) was) (eq-eqb c.bank i here)

opened_there : (i : ℕ) (was : Option ℕ) (c : Command) → c.bank ≢ i → opened_by i was c ≡ was
opened_there i was c there = ap (λ (b : Bool). cond b (row_after c.kind c.row was) was) (ne_eqb c.bank i there)

-- the record of the command's own bank, and of any other
noted_at : (d : Kind) (h : List Command) (c : Command) (i : ℕ) (o : Option ℕ) → c.bank ≡ i → Every (λ a. a.cycle < c.cycle) h → Latest (At d i) h o → Latest (At d i) (h ++ (c ∷ [])) (noted d c o)
noted_at d h c i o here rises l =
    latest_more (At d i) h c (same_kind c.kind d) o (asks_map (same_kind c.kind d) (λ p. (p, here)) (λ p. p.0) (asks_kind c.kind d)) rises l

bank_here : (h : List Command) (c : Command) (i : ℕ) (b : BankRecord) → c.bank ≡ i → Every (λ a. a.cycle < c.cycle) h → BankSummarises h i b → BankSummarises (h ++ (c ∷ [])) i (bank_after b c)
bank_here h c i b here rises was = record {
  open_is = ap (row_after c.kind c.row) was.open_is ∙ sym (opened_more i None h c ∙ opened_here i (open_row i h) c here);
  activate_is = noted_at Activate h c i b.activate here rises was.activate_is;
  precharge_is = noted_at Precharge h c i b.precharge here rises was.precharge_is;
  read_is = noted_at Read h c i b.read here rises was.read_is;
  write_is = noted_at Write h c i b.write here rises was.write_is;
}

kept_at : (d : Kind) (h : List Command) (c : Command) (i : ℕ) (o : Option ℕ) → c.bank ≢ i → Every (λ a. a.cycle < c.cycle) h → Latest (At d i) h o → Latest (At d i) (h ++ (c ∷ [])) o
kept_at d h c i o there rises l = latest_more (At d i) h c false o (λ p. there p.1) rises l

bank_there : (h : List Command) (c : Command) (i : ℕ) (b : BankRecord) → c.bank ≢ i → Every (λ a. a.cycle < c.cycle) h → BankSummarises h i b → BankSummarises (h ++ (c ∷ [])) i b
bank_there h c i b there rises was = record {
  open_is = was.open_is ∙ sym (opened_more i None h c ∙ opened_there i (open_row i h) c there);
  activate_is = kept_at Activate h c i b.activate there rises was.activate_is;
  precharge_is = kept_at Precharge h c i b.precharge there rises was.precharge_is;
  read_is = kept_at Read h c i b.read there rises was.read_is;
  write_is = kept_at Write h c i b.write there rises was.write_is;
}

-- the last four activates
one_join : (b : Bool) (x : Command) (xs ys zs : List Command) → zs ≡ xs ++ ys → cond b (x ∷ zs) zs ≡ cond b (x ∷ xs) xs ++ ys
one_join true x xs ys zs e = ap (λ (l : List Command). x ∷ l) e
one_join false x xs ys zs e = e

pub activates_more : (h : List Command) (c : Command) → activates (h ++ (c ∷ [])) ≡ activates h ++ activates (c ∷ [])
activates_more [] c = refl
activates_more (x ∷ xs) c = one_join (same_kind x.kind Activate) x (activates xs) (activates (c ∷ [])) (activates (xs ++ (c ∷ []))) (activates_more xs c)

recent_by : (b : Bool) (acts : List Command) (c : Command) →
    cond b (recent_with (first_four (reverse acts)) c.cycle) (first_four (reverse acts)) ≡ first_four (reverse (acts ++ cond b (c ∷ []) []))
recent_by true acts c = ap first_four (sym (reverse-append acts (c ∷ [])))
recent_by false acts c = ap (λ (xs : List Command). first_four (reverse xs)) (sym (append-nil acts))

recent_more : (h : List Command) (c : Command) (n : Recent) → n ≡ first_four (reverse (activates h)) → recent_after n c ≡ first_four (reverse (activates (h ++ (c ∷ []))))
recent_more h c n e =
    ap (λ (m : Recent). recent_after m c) e
    ∙ recent_by (same_kind c.kind Activate) (activates h) c
    ∙ ap (λ (xs : List Command). first_four (reverse xs)) (sym (activates_more h c))

pub summary_more : (h : List Command) (c : Command) (b : Book) → Every (λ a. a.cycle < c.cycle) h → c.bank < 16 → Summarises h b → Summarises (h ++ (c ∷ [])) (book_with b c)
summary_more h c b rises small was = record {
  latest_is = latest_more (λ a. Unit {0}) h c true b.latest tt rises was.latest_is;
  sixteen = length-set b.banks c.bank (bank_after (bank_of b c) c) ∙ was.sixteen;
  banks_are = λ i lt. elim (cases_eq c.bank i) [
    | inl here ↦ subst (λ (n : BankRecord). BankSummarises (h ++ (c ∷ [])) i n)
        (sym (ap (λ (j : ℕ). get_or (set b.banks c.bank (bank_after (bank_of b c) c)) j no_bank) (sym here)
        ∙ get_or-set_same b.banks c.bank (bank_after (bank_of b c) c) no_bank (omega (arith, was.sixteen))))
        (bank_here h c i (bank_of b c) here rises (subst (λ (j : ℕ). BankSummarises h i (get_or b.banks j no_bank)) (sym here) (was.banks_are i lt)))
    | inr there ↦ subst (λ (n : BankRecord). BankSummarises (h ++ (c ∷ [])) i n)
        (sym (get_or-set_other b.banks c.bank i (bank_after (bank_of b c) c) no_bank (λ e. there (sym e))))
        (bank_there h c i (get_or b.banks i no_bank) there rises (was.banks_are i lt))
  ];
  read_is = latest_more (Of Read) h c (same_kind c.kind Read) b.read (asks_kind c.kind Read) rises was.read_is;
  write_is = latest_more (Of Write) h c (same_kind c.kind Write) b.write (asks_kind c.kind Write) rises was.write_is;
  recent_is = recent_more h c b.recent was.recent_is;
}
