-- The checker's refusals by number, and what they carry.
use Rattle.std.specs.Prelude.{ℕ, Some, None, Option}
use Rattle.rulebook.specs.Book.{rule_number}
use Rattle.trace.specs.Board.{board_number, board_place}
use Rattle.checker.specs.declared.refusals.RecordRefusal.{RecordRefusal}
use Rattle.checker.specs.declared.refusals.RecordRefusal.TheVariants.{Improper, Broken as RecordBroken}
use Rattle.checker.specs.declared.refusals.TextRefusal.{TextRefusal}
use Rattle.checker.specs.declared.refusals.TextRefusal.TheVariants.{TooLong, Board as OfBoard, Malformed, Broken}

-- records: 17 improper, 18 a rule is broken
abbrev pub record_number : RecordRefusal → ℕ
record_number (Improper line) = 17
record_number (RecordBroken line rule) = 18

abbrev pub record_line : RecordRefusal → ℕ
record_line (Improper line) = line
record_line (RecordBroken line rule) = line

-- the number of the rule that a refusal carries, if any
abbrev pub record_rule : RecordRefusal → Option ℕ
record_rule (Improper line) = None
record_rule (RecordBroken line rule) = Some (rule_number rule)

-- text: 19 too long, 20 and 1 to 5 the sheet line's own, 16 malformed, 18 a rule is broken
abbrev pub text_number : TextRefusal → ℕ
text_number TooLong = 19
text_number (OfBoard why) = board_number why
text_number (Malformed line) = 16
text_number (Broken line rule) = 18

-- the line, or the place in the sheet, that a refusal carries, if any
abbrev pub text_place : TextRefusal → Option ℕ
text_place TooLong = None
text_place (OfBoard why) = board_place why
text_place (Malformed line) = Some line
text_place (Broken line rule) = Some line

-- the number of the rule that a refusal carries, if any
abbrev pub text_rule : TextRefusal → Option ℕ
text_rule TooLong = None
text_rule (OfBoard why) = None
text_rule (Malformed line) = None
text_rule (Broken line rule) = Some (rule_number rule)
