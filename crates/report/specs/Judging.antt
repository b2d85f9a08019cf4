-- The text that `judge` prints for a sheet line and a trace.
use Rattle.std.specs.Prelude.{◌≡◌, ℕ, List, [], ◌∷◌, ◌++◌, Some, None, Ok, Err, codes, decimal, Option, Result}
use Rattle.sheet.specs.declared.board.Board.{Board}
use Rattle.rulebook.specs.declared.rule.Rule.{Rule}
use Rattle.trace.specs.Board.{board_told, board_made}
use Rattle.trace.specs.Digits.{digits}
use Rattle.checker.specs.Judging.{JudgedText}
use Rattle.checker.specs.Packing.{packed}
use Rattle.checker.specs.Words.{words_of}
use Rattle.checker.specs.declared.refusals.TextRefusal.{TextRefusal}
use Rattle.checker.specs.declared.refusals.TextRefusal.TheVariants.{TooLong, Board as OfBoard, Malformed, Broken}
use Rattle.report.specs.Gaps.{missing_gap, gap_words, Named}
use Rattle.report.specs.declared.gaps.Near.{Near}

-- the end of the line for a broken rule: the two cycles and the gap, where one is missing
abbrev pub near_text : Option Near → List ℕ
near_text None = codes "\n"
near_text (Some n) = gap_words n ++ codes "\n"

-- a trace that passes
abbrev pub passes_text : ℕ → List ℕ
passes_text count = codes "passes: " ++ (decimal count ++ codes " commands\n")

-- a trace that does not pass
abbrev pub against_text : TextRefusal → Option Near → List ℕ
against_text TooLong near = words_of TooLong ++ codes "\n"
against_text (OfBoard why) near = words_of (OfBoard why) ++ codes "\n"
against_text (Malformed line) near = words_of (Malformed line) ++ codes "\n"
against_text (Broken line rule) near = words_of (Broken line rule) ++ near_text near

-- the line for people
abbrev pub people_text : Result ℕ TextRefusal → Option Near → List ℕ
people_text (Ok count) near = passes_text count
people_text (Err why) near = against_text why near

-- a number's last 16 digits, the highest first, and a line feed
abbrev pub packed_text : ℕ → List ℕ
packed_text n = digits 16 n ++ 10 ∷ []

-- the line for people, and the packed answer as the last line
abbrev pub told_text : Result ℕ TextRefusal → Option Near → List ℕ
told_text answer near = people_text answer near ++ packed_text (packed answer)

-- the gap that is told for a line that breaks a rule: the one that is missing there by the sheet that the sheet line gives
abbrev pub GapAt : List ℕ → List ℕ → ℕ → Rule → Option Near → Type 0
GapAt line text at rule near = (b : Board) → board_told (Ok b) ≡ board_made line → near ≡ missing_gap b.sheet text at rule

-- the gap that is told for an answer
abbrev pub GapTold : List ℕ → List ℕ → Result ℕ TextRefusal → Option Near → Type 0
GapTold line text (Ok count) near = near ≡ None
GapTold line text (Err TooLong) near = near ≡ None
GapTold line text (Err (OfBoard why)) near = near ≡ None
GapTold line text (Err (Malformed at)) near = near ≡ None
GapTold line text (Err (Broken at rule)) near = GapAt line text at rule near

-- the gap that is told says what the rule needed, by the sheet that the sheet line gives
abbrev pub GapNamed : List ℕ → List ℕ → Result ℕ TextRefusal → Option Near → Type 0
GapNamed line text (Ok count) near = Unit {0}
GapNamed line text (Err TooLong) near = Unit {0}
GapNamed line text (Err (OfBoard why)) near = Unit {0}
GapNamed line text (Err (Malformed at)) near = Unit {0}
GapNamed line text (Err (Broken at rule)) near = (b : Board) → board_told (Ok b) ≡ board_made line → Named b.sheet text at rule near

-- a text that tells how a trace is judged by a sheet line
pub record JudgedAloud (line text out : List ℕ) : Type 0 where
  pub answer : Result ℕ TextRefusal
  pub near : Option Near
  pub judged : JudgedText line text answer
  pub gap_told : GapTold line text answer near
  pub gap_named : GapNamed line text answer near
  pub is_told : out ≡ told_text answer near
