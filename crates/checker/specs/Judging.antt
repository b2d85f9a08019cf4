-- What the checker promises: a trace passes exactly when it obeys the rule book, else the first bad line and its smallest rule are named.
use Rattle.std.specs.Prelude.{◌≡◌, ℕ, ◌<◌, true, false, List, map, length, take, Some, None, Ok, Err, MatchBool, Result, nat_lt, slice_index_or}
use Rattle.sheet.specs.declared.accepted.Sheet.{Sheet}
use Rattle.sheet.specs.declared.geometry.Chip.{Chip}
use Rattle.rulebook.specs.Book.{Holds, Obeys, rule_number}
use Rattle.rulebook.specs.Summary.{Judges}
use Rattle.rulebook.specs.declared.book.Book.{Book}
use Rattle.rulebook.specs.declared.command.Command.{Command}
use Rattle.rulebook.specs.declared.rule.Rule.{Rule}
use Rattle.trace.specs.Line.{proper, command_in}
use Rattle.trace.specs.Text.{no_command, line_at, line_count, lines_of, AllProper}
use Rattle.trace.specs.Board.{board_told, board_made}
use Rattle.sheet.specs.declared.board.Board.{Board}
use Rattle.trace.specs.declared.board.BoardRefusal.{BoardRefusal}
use Rattle.checker.specs.declared.refusals.RecordRefusal.{RecordRefusal}
use Rattle.checker.specs.declared.refusals.RecordRefusal.TheVariants.{Improper, Broken as RecordBroken}
use Rattle.checker.specs.declared.refusals.TextRefusal.{TextRefusal}
use Rattle.checker.specs.declared.refusals.TextRefusal.TheVariants.{TooLong, Board as OfBoard, Malformed, Broken}

-- a command breaks this rule after the commands before it, and none of a smaller number
pub record Breaks (s : Sheet) (k : Chip) (before : List Command) (c : Command) (rule : Rule) : Type 0 where
  pub broken : Holds s k rule before c → ⊥
  pub smallest : (q : Rule) → rule_number q < rule_number rule → Holds s k q before c

-- commands that are proper and obey the rule book
pub record Clean (s : Sheet) (k : Chip) (cs : List Command) : Type 0 where
  pub all_proper : AllProper cs
  pub obeys : Obeys s k cs

-- records pass with their count exactly when all are clean; else those before a line are clean, and the record there is improper, or proper and breaks this rule and no smaller one
abbrev pub Judged : Sheet → Chip → List Command → Result ℕ RecordRefusal → Type 0
Judged s k cs (Ok count) = (count ≡ length cs) × Clean s k cs
Judged s k cs (Err (Improper line)) =
    (Clean s k cs → ⊥) × (line < length cs) × Clean s k (take line cs) × (proper (slice_index_or cs line no_command) ≡ false)
Judged s k cs (Err (RecordBroken line rule)) =
    (Clean s k cs → ⊥) × (line < length cs) × Clean s k (take line cs) × (proper (slice_index_or cs line no_command) ≡ true) × Breaks s k (take line cs) (slice_index_or cs line no_command) rule

-- one record after the commands that a book has taken in: taken in too, or improper, or against the rules
abbrev pub JudgedRecord : Sheet → Chip → Book → ℕ → Command → Result Unit RecordRefusal → Book → Type 0
JudgedRecord s k old line c (Ok u) new = (proper c ≡ true) × Judges s k old c (Ok tt) new
JudgedRecord s k old line c (Err (Improper at)) new = (at ≡ line) × (proper c ≡ false)
JudgedRecord s k old line c (Err (RecordBroken at rule)) new = (at ≡ line) × (proper c ≡ true) × Judges s k old c (Err rule) new

-- lines stand for commands, one for one, that obey the rule book
pub record LawfulLines (s : Sheet) (k : Chip) (lines : List (List ℕ)) (cs : List Command) : Type 0 where
  pub stand_for : map command_in lines ≡ map Some cs
  pub obeys : Obeys s k cs

-- there are no commands that lines stand for and that obey the rule book
abbrev pub Unlawful : Sheet → Chip → List (List ℕ) → Type 0
Unlawful s k lines = (cs : List Command) → LawfulLines s k lines cs → ⊥

-- a text passes with the count of its lines exactly when they stand for commands that obey; else those before a line do, and that line is malformed, or stands for a command that breaks this rule and no smaller one
abbrev pub JudgedLines : Sheet → Chip → List ℕ → Result ℕ TextRefusal → Type 0
JudgedLines s k text (Ok count) = (count ≡ line_count text) × ((cs : List Command) × LawfulLines s k (lines_of text) cs)
JudgedLines s k text (Err (Malformed line)) =
    Unlawful s k (lines_of text) × (line < line_count text) × ((cs : List Command) × LawfulLines s k (take line (lines_of text)) cs) × (command_in (line_at text line) ≡ None)
JudgedLines s k text (Err (Broken line rule)) =
    Unlawful s k (lines_of text) × (line < line_count text) × ((cs : List Command) × LawfulLines s k (take line (lines_of text)) cs
    × ((c : Command) × (command_in (line_at text line) ≡ Some c) × Breaks s k cs c rule))
JudgedLines s k text (Err TooLong) = ⊥
JudgedLines s k text (Err (OfBoard why)) = ⊥

-- one line after the commands that a book has taken in: taken in too, or malformed, or against the rules
abbrev pub JudgedLine : Sheet → Chip → Book → ℕ → List ℕ → Result Unit TextRefusal → Book → Type 0
JudgedLine s k old line bs (Ok u) new = (c : Command) × (command_in bs ≡ Some c) × Judges s k old c (Ok tt) new
JudgedLine s k old line bs (Err (Malformed at)) new = (at ≡ line) × (command_in bs ≡ None)
JudgedLine s k old line bs (Err (Broken at rule)) new = (at ≡ line) × ((c : Command) × (command_in bs ≡ Some c) × Judges s k old c (Err rule) new)
JudgedLine s k old line bs (Err TooLong) new = ⊥
JudgedLine s k old line bs (Err (OfBoard why)) new = ⊥

-- a text judged by the answer to the sheet line: by its sheet and chip, or refused as the line is
abbrev pub JudgedBy : Result Board BoardRefusal → List ℕ → Result ℕ TextRefusal → Type 0
JudgedBy (Ok b) text r = JudgedLines b.sheet b.chip text r
JudgedBy (Err why) text r = r ≡ Err (OfBoard why)

-- a text judged by a sheet line: refused where it is too long, else judged by the answer that the sheet line is due
abbrev pub JudgedText : List ℕ → List ℕ → Result ℕ TextRefusal → Type 0
JudgedText line text r =
    MatchBool (nat_lt 1073741824 (length text)) (r ≡ Err TooLong)
    ((answer : Result Board BoardRefusal) × (board_told answer ≡ board_made line) × JudgedBy answer text r)
