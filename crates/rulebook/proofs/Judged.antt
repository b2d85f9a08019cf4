-- The first broken rule of a scan is the smallest that is broken, and what the answer to a command promises.
use Rattle.std.proofs.Common.{◌≡◌, ℕ, ◌+◌, ◌<◌, Bool, true, false, cond, List, [], ◌∷◌, get_or, Some, None, Option, Result, sym, refl, ap, ◌∙◌, subst, inl, inr, arith, lit<}
use Rattle.std.proofs.lemmas.Bool.{cases_lt}
use Rattle.sheet.specs.declared.accepted.Sheet.{Sheet}
use Rattle.sheet.specs.declared.geometry.Chip.{Chip}
use Rattle.rulebook.specs.declared.command.Command.{Command}
use Rattle.rulebook.specs.declared.rule.Rule.{Rule}
use Rattle.rulebook.specs.declared.rule.Rule.TheVariants.{CyclesRise, InsideChip, ActivateClosed, PrechargeOpen, ColumnOpen, ActivateActivateSame, ActivateActivateOther, ActivatePrecharge, ActivateColumn, PrechargeActivate, ColumnColumn, ReadWrite, WriteRead, ReadPrecharge, WritePrecharge, FourActivates}
use Rattle.rulebook.specs.declared.book.Book.{Book}
use Rattle.rulebook.specs.Book.{Holds, Obeys, rule_number}
use Rattle.rulebook.specs.Record.{book_with}
use Rattle.rulebook.specs.Answer.{breaks, first_broken, all_rules, broken_rule, answer_by, book_by, answer_to, book_after}
use Rattle.rulebook.specs.Summary.{Summarises, Answered, Judges}
use Rattle.rulebook.proofs.Told.{Told}
use Rattle.rulebook.proofs.Obeying.{longer_obeys, last_lawful}
use Rattle.rulebook.proofs.Recorded.{summary_more}
use Rattle.rulebook.proofs.Tested.{told_rule}

-- the rule of a number
abbrev rule_at : ℕ → Rule
rule_at n = get_or (CyclesRise ∷ all_rules) n CyclesRise

at_number : (r : Rule) → rule_at (rule_number r) ≡ r
at_number CyclesRise = refl
at_number InsideChip = refl
at_number ActivateClosed = refl
at_number PrechargeOpen = refl
at_number ColumnOpen = refl
at_number ActivateActivateSame = refl
at_number ActivateActivateOther = refl
at_number ActivatePrecharge = refl
at_number ActivateColumn = refl
at_number PrechargeActivate = refl
at_number ColumnColumn = refl
at_number ReadWrite = refl
at_number WriteRead = refl
at_number ReadPrecharge = refl
at_number WritePrecharge = refl
at_number FourActivates = refl

same_rule : (q r : Rule) → rule_number q ≡ rule_number r → q ≡ r
same_rule q r e = sym (at_number q) ∙ ap rule_at e ∙ at_number r

-- numbers run from 1 to 16
from_one_to_sixteen : (r : Rule) → (0 < rule_number r) × (rule_number r < 17)
from_one_to_sixteen CyclesRise = (lit< tt, lit< tt)
from_one_to_sixteen InsideChip = (lit< tt, lit< tt)
from_one_to_sixteen ActivateClosed = (lit< tt, lit< tt)
from_one_to_sixteen PrechargeOpen = (lit< tt, lit< tt)
from_one_to_sixteen ColumnOpen = (lit< tt, lit< tt)
from_one_to_sixteen ActivateActivateSame = (lit< tt, lit< tt)
from_one_to_sixteen ActivateActivateOther = (lit< tt, lit< tt)
from_one_to_sixteen ActivatePrecharge = (lit< tt, lit< tt)
from_one_to_sixteen ActivateColumn = (lit< tt, lit< tt)
from_one_to_sixteen PrechargeActivate = (lit< tt, lit< tt)
from_one_to_sixteen ColumnColumn = (lit< tt, lit< tt)
from_one_to_sixteen ReadWrite = (lit< tt, lit< tt)
from_one_to_sixteen WriteRead = (lit< tt, lit< tt)
from_one_to_sixteen ReadPrecharge = (lit< tt, lit< tt)
from_one_to_sixteen WritePrecharge = (lit< tt, lit< tt)
from_one_to_sixteen FourActivates = (lit< tt, lit< tt)

-- rules in the order of their numbers, from n to the last
abbrev Numbered : ℕ → List Rule → Type 0
Numbered n [] = n ≡ 17
Numbered n (r ∷ rs) = (rule_number r ≡ n) × Numbered (n + 1) rs

-- what is so of each rule, where none is broken, or of those before the first that is
abbrev Scanned : (Rule → Type 0) → Option Rule → Type 0
Scanned P None = (r : Rule) → P r
Scanned P (Some r) = (P r → ⊥) × ((q : Rule) → rule_number q < rule_number r → P q)

-- one step of the scan
at_first : (P : Rule → Type 0) (b : Bool) (r : Rule) (o : Option Rule) → Told b (P r) → ((q : Rule) → rule_number q < rule_number r → P q) → (P r → Scanned P o) →
    Scanned P (cond b (Some r) o)
at_first P true r o t before rest = (t, before)
at_first P false r o t before rest = rest t

-- the rules up to this one hold
up_to : (P : Rule → Type 0) (n : ℕ) (r : Rule) → rule_number r ≡ n → ((q : Rule) → rule_number q < n → P q) → P r → (q : Rule) → rule_number q < n + 1 → P q
up_to P n r e before p q lt = elim (cases_lt (rule_number q) n) [
  | inl less ↦ before q less
  | inr le ↦ subst P (same_rule r q (omega arith)) p
]

scan : (broken : Rule → Bool) (P : Rule → Type 0) → ((r : Rule) → ((q : Rule) → rule_number q < rule_number r → P q) → Told (broken r) (P r)) →
    (n : ℕ) (rs : List Rule) → Numbered n rs → ((q : Rule) → rule_number q < n → P q) → Scanned P (first_broken broken rs)
scan broken P told n [] e before = λ r. before r (omega (arith, (from_one_to_sixteen r).1, e))
scan broken P told n (r ∷ rs) e before =
    let smaller : (q : Rule) → rule_number q < rule_number r → P q = λ q lt. before q (omega (arith, lt, e.0)) in
    at_first P (broken r) r (first_broken broken rs) (told r smaller) smaller
    (λ p. scan broken P told (n + 1) rs e.1 (up_to P n r e.0 before p))

in_order : Numbered 1 all_rules
in_order = (refl, (refl, (refl, (refl, (refl, (refl, (refl, (refl, (refl, (refl, (refl, (refl, (refl, (refl, (refl, (refl, refl))))))))))))))))

-- what a scan of all rules says, as an answer
answered : (s : Sheet) (k : Chip) (h : List Command) (b : Book) (c : Command) → Summarises h b → Obeys s k h → (o : Option Rule) → Scanned (λ r. Holds s k r h c) o →
    Answered s k h c (answer_by o) (book_by o b (book_with b c))
answered s k h b c sum obeys None lawful =
    (longer_obeys s k h c obeys lawful, summary_more h c b (lawful CyclesRise) (omega (arith, (lawful InsideChip).0, k.banks_in)) sum)
answered s k h b c sum obeys (Some r) first = (λ longer. first.0 (last_lawful s k h c longer r), first.0, first.1)

pub judged : (s : Sheet) (k : Chip) (b : Book) (c : Command) (r : Result Unit Rule) (new : Book) → r ≡ answer_to s k b c → new ≡ book_after s k b c → Judges s k b c r new
judged s k b c r new e f h sum obeys =
    subst (λ (x : Result Unit Rule). Answered s k h c x new) (sym e)
    (subst (λ (x : Book). Answered s k h c (answer_to s k b c) x) (sym f)
    (answered s k h b c sum obeys (broken_rule s k b c)
    (scan (breaks s k b c) (λ q. Holds s k q h c) (told_rule s k h b c sum obeys) 1 all_rules in_order (λ q lt. absurd (omega (arith, (from_one_to_sixteen q).0, lt))))))
