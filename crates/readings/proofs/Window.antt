-- The activate window, judged by computing; the checker's promise leaves no other answer.
use Rattle.std.proofs.Common.{◌≡◌, ℕ, zero, suc, ◌<◌, false, [], get_or, take, Ok, Err, Result, refl, ap, arith}
use Rattle.rulebook.specs.declared.rule.Rule.{Rule}
use Rattle.rulebook.specs.declared.rule.Rule.TheVariants.{CyclesRise, InsideChip, ActivateClosed, PrechargeOpen, ColumnOpen, ActivateActivateSame, ActivateActivateOther, ActivatePrecharge, ActivateColumn, PrechargeActivate, ColumnColumn, ReadWrite, WriteRead, ReadPrecharge, WritePrecharge, FourActivates}
use Rattle.rulebook.specs.declared.book.Book.{Book}
use Rattle.rulebook.specs.Book.{rule_number}
use Rattle.rulebook.specs.Record.{no_book, book_with}
use Rattle.checker.specs.declared.refusals.RecordRefusal.{RecordRefusal}
use Rattle.checker.specs.declared.refusals.RecordRefusal.TheVariants.{Improper, Broken}
use Rattle.checker.specs.Judging.{Breaks, Clean, Judged}
use Rattle.checker.proofs.Exact.{broken_fails}
use Rattle.trace.specs.Line.{proper}
use Rattle.trace.specs.Text.{no_command}
use Rattle.readings.specs.Small.{small_sheet, small_chip}
use Rattle.readings.specs.Window.{activate_at, four_activates, five_activates, ActivateWindow}
use Rattle.readings.proofs.Known.{Known, nothing_known, one_more, breaks_it}

-- the record after four activates
abbrev four_book : Book
four_book = book_with (book_with (book_with (book_with no_book (activate_at 1 0)) (activate_at 3 1)) (activate_at 5 2)) (activate_at 7 3)

known_four : Known small_sheet small_chip four_activates four_book
known_four =
    let one = one_more small_sheet small_chip [] no_book (activate_at 1 0) (nothing_known small_sheet small_chip) refl in
    let two = one_more small_sheet small_chip _ _ (activate_at 3 1) one refl in
    let three = one_more small_sheet small_chip _ _ (activate_at 5 2) two refl in
    one_more small_sheet small_chip _ _ (activate_at 7 3) three refl

known_five : Known small_sheet small_chip (five_activates 13) (book_with four_book (activate_at 13 4))
known_five = one_more small_sheet small_chip four_activates four_book (activate_at 13 4) known_four refl

twelve_breaks : Breaks small_sheet small_chip four_activates (activate_at 12 4) FourActivates
twelve_breaks = breaks_it small_sheet small_chip four_activates four_book (activate_at 12 4) FourActivates known_four refl

-- rule 16 is the only one that is not smaller
no_smaller : (r : Rule) → (rule_number r < 16 → ⊥) → r ≡ FourActivates
no_smaller CyclesRise n = absurd (n (omega arith))
no_smaller InsideChip n = absurd (n (omega arith))
no_smaller ActivateClosed n = absurd (n (omega arith))
no_smaller PrechargeOpen n = absurd (n (omega arith))
no_smaller ColumnOpen n = absurd (n (omega arith))
no_smaller ActivateActivateSame n = absurd (n (omega arith))
no_smaller ActivateActivateOther n = absurd (n (omega arith))
no_smaller ActivatePrecharge n = absurd (n (omega arith))
no_smaller ActivateColumn n = absurd (n (omega arith))
no_smaller PrechargeActivate n = absurd (n (omega arith))
no_smaller ColumnColumn n = absurd (n (omega arith))
no_smaller ReadWrite n = absurd (n (omega arith))
no_smaller WriteRead n = absurd (n (omega arith))
no_smaller ReadPrecharge n = absurd (n (omega arith))
no_smaller WritePrecharge n = absurd (n (omega arith))
no_smaller FourActivates n = refl

-- no earlier record breaks a rule
obeyed_at : (line : ℕ) (rule : Rule) → line < 4 → Breaks small_sheet small_chip (take line four_activates) (get_or four_activates line no_command) rule → ⊥
obeyed_at line rule l b = broken_fails small_sheet small_chip four_activates line no_command rule l b known_four.obeys

clean_four : Clean small_sheet small_chip four_activates
clean_four = record { all_proper = (refl, (refl, (refl, (refl, tt)))); obeys = known_four.obeys }

clean_five : Clean small_sheet small_chip (five_activates 13)
clean_five = record { all_proper = (refl, (refl, (refl, (refl, (refl, tt))))); obeys = known_five.obeys }

unclean : Clean small_sheet small_chip (five_activates 12) → ⊥
unclean clean = twelve_breaks.broken (clean.obeys four_activates (activate_at 12 4) [] refl FourActivates)

-- every record is proper
all_proper_at : (line : ℕ) → line < 5 → proper (get_or (five_activates 12) line no_command) ≡ false → ⊥
all_proper_at zero l e = cc
all_proper_at (suc zero) l e = cc
all_proper_at (suc (suc zero)) l e = cc
all_proper_at (suc (suc (suc zero))) l e = cc
all_proper_at (suc (suc (suc (suc zero)))) l e = cc
all_proper_at (suc (suc (suc (suc (suc n))))) l e = omega arith

-- so the checker refuses the fifth by rule 16, and can answer nothing else
broken_at : (line : ℕ) (rule : Rule) → Judged small_sheet small_chip (five_activates 12) (Err (Broken line rule)) → ◌≡◌ {A = Result ℕ RecordRefusal} (Err (Broken line rule)) (Err (Broken 4 FourActivates))
broken_at zero rule j = absurd (obeyed_at 0 rule (omega arith) j.4)
broken_at (suc zero) rule j = absurd (obeyed_at 1 rule (omega arith) j.4)
broken_at (suc (suc zero)) rule j = absurd (obeyed_at 2 rule (omega arith) j.4)
broken_at (suc (suc (suc zero))) rule j = absurd (obeyed_at 3 rule (omega arith) j.4)
broken_at (suc (suc (suc (suc zero)))) rule j = ap (λ (r : Rule). Err (Broken 4 r)) (no_smaller rule (λ l. j.4.broken (twelve_breaks.smallest rule l)))
broken_at (suc (suc (suc (suc (suc n))))) rule j = absurd (omega (arith, j.1))

twelve_only : (r : Result ℕ RecordRefusal) → Judged small_sheet small_chip (five_activates 12) r → r ≡ Err (Broken 4 FourActivates)
twelve_only (Ok count) j = absurd (unclean j.1)
twelve_only (Err (Improper line)) j = absurd (all_proper_at line j.1 j.3)
twelve_only (Err (Broken line rule)) j = broken_at line rule j

thirteen_only : (r : Result ℕ RecordRefusal) → Judged small_sheet small_chip (five_activates 13) r → r ≡ Ok 5
thirteen_only (Ok count) j = ap (λ (n : ℕ). Ok n) j.0
thirteen_only (Err (Improper line)) j = absurd (j.0 clean_five)
thirteen_only (Err (Broken line rule)) j = absurd (j.0 clean_five)

pub activate_window : ActivateWindow
activate_window = record {
  four_obey = known_four.obeys;
  twelve_breaks = twelve_breaks;
  which_is_sixteen = refl;
  twelve_refused = record { so = (unclean, omega arith, clean_four, refl, twelve_breaks); only = twelve_only };
  thirteen_obeys = known_five.obeys;
  thirteen_passes = record { so = (refl, clean_five); only = thirteen_only };
}
