-- One command more.
use Rattle.std.proofs.Common.{◌≡◌, ℕ, ◌+◌, ◌<◌, true, List, [], ◌∷◌, ◌++◌, length, get_or, take, Ok, Err, sym, subst}
use Rattle.std.proofs.lemmas.List.{take_more}
use Rattle.sheet.specs.declared.accepted.Sheet.{Sheet}
use Rattle.sheet.specs.declared.geometry.Chip.{Chip}
use Rattle.rulebook.specs.Book.{Obeys}
use Rattle.rulebook.specs.Summary.{Summarises, Judges}
use Rattle.rulebook.specs.declared.command.Command.{Command}
use Rattle.rulebook.specs.declared.rule.Rule.{Rule}
use Rattle.rulebook.specs.declared.book.Book.{Book}
use Rattle.trace.specs.Line.{proper}
use Rattle.trace.specs.Text.{no_command, AllProper}
use Rattle.checker.specs.Judging.{Breaks, Clean, Judged, JudgedRecord}
use Rattle.checker.proofs.Exact.{improper_fails, broken_fails}
use Rattle.checker.specs.declared.refusals.RecordRefusal.{RecordRefusal}
use Rattle.checker.specs.declared.refusals.RecordRefusal.TheVariants.{Improper, Broken}

-- the commands so far are clean, and the book summarises them
pub record SoFar (s : Sheet) (k : Chip) (h : List Command) (b : Book) : Type 0 where
  pub summary : Summarises h b
  pub clean : Clean s k h

all_more : (h : List Command) (c : Command) → AllProper h → proper c ≡ true → AllProper (h ++ c ∷ [])
all_more [] c a p = (p, tt)
all_more (x ∷ h) c a p = (a.0, all_more h c a.1 p)

-- an admitted command that is proper
pub admitted : (s : Sheet) (k : Chip) (h : List Command) (b new : Book) (c : Command) (u : Unit {0}) → SoFar s k h b → proper c ≡ true → Judges s k b c (Ok u) new → SoFar s k (h ++ c ∷ []) new
admitted s k h b new c u f p j =
    let a = j h f.summary f.clean.obeys in
    record { summary = a.1; clean = record { all_proper = all_more h c f.clean.all_proper p; obeys = a.0 } }

-- the same at a place of a list
pub admitted_at : (s : Sheet) (k : Chip) (cs : List Command) (i : ℕ) (d : Command) (b new : Book) (u : Unit {0}) → i < length cs → SoFar s k (take i cs) b → proper (get_or cs i d) ≡ true → Judges s k b (get_or cs i d) (Ok u) new → SoFar s k (take (i + 1) cs) new
admitted_at s k cs i d b new u h f p j =
    subst (λ (t : List Command). SoFar s k t new) (sym (take_more cs i d h)) (admitted s k (take i cs) b new (get_or cs i d) u f p j)

-- a command that is not admitted
pub refused_by : (s : Sheet) (k : Chip) (h : List Command) (b new : Book) (c : Command) (rule : Rule) → Summarises h b → Obeys s k h → Judges s k b c (Err rule) new → Breaks s k h c rule
refused_by s k h b new c rule f o j =
    let a = j h f o in
    record { broken = a.1; smallest = a.2 }

-- a record that is refused at its line
pub refused_at : (s : Sheet) (k : Chip) (cs : List Command) (line : ℕ) (b new : Book) (why : RecordRefusal) → line < length cs → SoFar s k (take line cs) b →
    JudgedRecord s k b line (get_or cs line no_command) (Err why) new → Judged s k cs (Err why)
refused_at s k cs line b new (Improper at) h f j =
    subst (λ (l : ℕ). Judged s k cs (Err (Improper l))) (sym j.0) (improper_fails s k cs line h j.1, h, f.clean, j.1)
refused_at s k cs line b new (Broken at rule) h f j =
    let breaks = refused_by s k (take line cs) b new (get_or cs line no_command) rule f.summary f.clean.obeys j.2 in
    subst (λ (l : ℕ). Judged s k cs (Err (Broken l rule))) (sym j.0)
    (λ clean. broken_fails s k cs line no_command rule h breaks clean.obeys, h, f.clean, j.1, breaks)
