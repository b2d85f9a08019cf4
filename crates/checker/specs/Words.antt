-- Why text does not pass, in words.
use Rattle.std.specs.Prelude.{ℕ, List, ◌++◌, codes, decimal}
use Rattle.rulebook.specs.Book.{rule_number}
use Rattle.rulebook.specs.Sentences.{sentence}
use Rattle.rulebook.specs.declared.rule.Rule.{Rule}
use Rattle.trace.specs.Board.{refusal_text}
use Rattle.checker.specs.declared.refusals.TextRefusal.{TextRefusal}
use Rattle.checker.specs.declared.refusals.TextRefusal.TheVariants.{TooLong, Board as OfBoard, Malformed, Broken}

-- a line that breaks a rule: its number, the rule's number, and what is wrong
abbrev pub broken_text : ℕ → Rule → List ℕ
broken_text line rule =
    codes "line " ++ (decimal line
    ++ (codes " breaks rule " ++ (decimal (rule_number rule)
    ++ (codes ": " ++ sentence rule))))

-- a refusal as it is shown: by its number with what it carries, or as the rule that is broken
abbrev pub words_of : TextRefusal → List ℕ
words_of TooLong = codes "refused " ++ decimal 19
words_of (OfBoard why) = refusal_text why
words_of (Malformed line) = codes "refused " ++ (decimal 16 ++ (codes " at line " ++ decimal line))
words_of (Broken line rule) = broken_text line rule
