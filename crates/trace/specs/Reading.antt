-- Reading text into lent records: the answer, and what the records then hold.
use Rattle.std.specs.Prelude.{◌≡◌, ℕ, ◌≤◌, cond, List, ◌++◌, map, length, take, drop, Some, None, Ok, Err, Option, Result, nat_lt}
use Rattle.sheet.specs.First.{first_place}
use Rattle.sheet.specs.Making.{Refused, refused, unless_at}
use Rattle.rulebook.specs.declared.command.Command.{Command}
use Rattle.trace.specs.Text.{line_count, lines_of, malformed, command_at, TextOf}
use Rattle.trace.specs.declared.reading.ReadRefusal.{ReadRefusal}
use Rattle.trace.specs.declared.reading.ReadRefusal.TheVariants.{Records, Malformed}

abbrev pub read_number : ReadRefusal → ℕ
read_number Records = 15
read_number (Malformed line) = 16

-- the line that a refusal carries
abbrev pub read_place : ReadRefusal → Option ℕ
read_place Records = None
read_place (Malformed line) = Some line

-- an answer as it is told: the count of lines, or the refusal
abbrev pub read_told : Result ℕ ReadRefusal → Result ℕ Refused
read_told (Ok count) = Ok count
read_told (Err why) = Err (record { number = read_number why; place = read_place why })

-- what reading a text into so many records answers
abbrev pub reading : ℕ → List ℕ → Result ℕ Refused
reading lent text =
    cond (nat_lt lent (line_count text)) (refused 15)
    (unless_at 16 (first_place malformed (lines_of text)) (Ok (line_count text)))

-- what the records hold then: record k is line k, and those behind the lines are as they were; all are where it was refused
abbrev pub records_after : List ℕ → Result ℕ ReadRefusal → List Command → List Command
records_after text (Ok count) old = map command_at (lines_of text) ++ drop count old
records_after text (Err why) old = old

-- a text that is read is the text written of the records read
abbrev pub ReadOnlySo : List ℕ → Result ℕ ReadRefusal → List Command → Type 0
ReadOnlySo text (Ok count) after = TextOf (take count after) text
ReadOnlySo text (Err why) after = Unit {0}

-- the text written of proper commands is read back, where so many records are lent
abbrev pub ReadsBack : List ℕ → List Command → Result ℕ ReadRefusal → List Command → Type 0
ReadsBack text old r after =
    (cs : List Command) → TextOf cs text → length cs ≤ length old → (r ≡ Ok (length cs)) × (after ≡ cs ++ drop (length cs) old)
