-- Traces judged by computing: what the compact record answers decides whether a longer trace obeys.
use Rattle.std.proofs.Common.{◌≡◌, List, [], ◌∷◌, ◌++◌, Some, None, Option, sym, ap}
use Rattle.sheet.specs.declared.accepted.Sheet.{Sheet}
use Rattle.sheet.specs.declared.geometry.Chip.{Chip}
use Rattle.rulebook.specs.declared.command.Command.{Command}
use Rattle.rulebook.specs.declared.rule.Rule.{Rule}
use Rattle.rulebook.specs.declared.book.Book.{Book}
use Rattle.rulebook.specs.Book.{Obeys}
use Rattle.rulebook.specs.Record.{no_book, book_with}
use Rattle.rulebook.specs.Answer.{broken_rule, answer_by, book_by}
use Rattle.rulebook.specs.Summary.{Summarises, Answered}
use Rattle.rulebook.proofs.Obeying.{nothing_obeys}
use Rattle.rulebook.proofs.Judged.{judged}
use Rattle.checker.specs.Judging.{Breaks}
use Rattle.machine.proofs.Answering.{nothing_summarised}

-- a trace obeys, and this record stands for it
pub record Known (s : Sheet) (k : Chip) (h : List Command) (b : Book) : Type 0 where
  pub obeys : Obeys s k h
  pub summary : Summarises h b

pub nothing_known : (s : Sheet) (k : Chip) → Known s k [] no_book
nothing_known s k = record { obeys = nothing_obeys s k; summary = nothing_summarised }

-- what the record answers to one more command
answers : (s : Sheet) (k : Chip) (h : List Command) (b : Book) (c : Command) (o : Option Rule) → Known s k h b → broken_rule s k b c ≡ o → Answered s k h c (answer_by o) (book_by o b (book_with b c))
answers s k h b c o n e = judged s k b c (answer_by o) (book_by o b (book_with b c)) (ap answer_by (sym e)) (ap (λ (x : Option Rule). book_by x b (book_with b c)) (sym e)) h n.summary n.obeys

-- a command that the record takes in
pub one_more : (s : Sheet) (k : Chip) (h : List Command) (b : Book) (c : Command) → Known s k h b → broken_rule s k b c ≡ None → Known s k (h ++ (c ∷ [])) (book_with b c)
one_more s k h b c n e = let a = answers s k h b c None n e in record { obeys = a.0; summary = a.1 }

-- a command that it refuses
pub too_early : (s : Sheet) (k : Chip) (h : List Command) (b : Book) (c : Command) (r : Rule) → Known s k h b → broken_rule s k b c ≡ Some r → Obeys s k (h ++ (c ∷ [])) → ⊥
too_early s k h b c r n e = (answers s k h b c (Some r) n e).0

pub breaks_it : (s : Sheet) (k : Chip) (h : List Command) (b : Book) (c : Command) (r : Rule) → Known s k h b → broken_rule s k b c ≡ Some r → Breaks s k h c r
breaks_it s k h b c r n e = let a = answers s k h b c (Some r) n e in record { broken = a.1; smallest = a.2 }
