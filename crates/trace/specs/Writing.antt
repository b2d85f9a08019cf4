-- Writing commands into a lent buffer: the answer, and what the buffer then holds.
use Rattle.std.specs.Prelude.{ℕ, ◌*◌, Bool, cond, not, List, ◌++◌, length, take, drop, Some, None, Ok, Err, Option, Result, nat_lt}
use Rattle.sheet.specs.First.{first_place}
use Rattle.sheet.specs.Making.{Refused, refused, unless_at}
use Rattle.rulebook.specs.declared.command.Command.{Command}
use Rattle.trace.specs.Line.{proper}
use Rattle.trace.specs.Text.{written, TextOf}
use Rattle.trace.specs.declared.writing.WriteRefusal.{WriteRefusal}
use Rattle.trace.specs.declared.writing.WriteRefusal.TheVariants.{Buffer, Improper}

abbrev pub write_number : WriteRefusal → ℕ
write_number Buffer = 15
write_number (Improper record_number) = 17

-- the record that a refusal carries
abbrev pub write_place : WriteRefusal → Option ℕ
write_place Buffer = None
write_place (Improper record_number) = Some record_number

-- an answer as it is told: the count of lines, or the refusal
abbrev pub write_told : Result ℕ WriteRefusal → Result ℕ Refused
write_told (Ok count) = Ok count
write_told (Err why) = Err (record { number = write_number why; place = write_place why })

-- a record that no line stands for
unfoldable pub improper : Command → Bool
improper c = not (proper c)

-- what writing commands into so many bytes answers
abbrev pub writing : ℕ → List Command → Result ℕ Refused
writing lent cs =
    cond (nat_lt lent (27 * length cs)) (refused 15)
    (unless_at 17 (first_place improper cs) (Ok (length cs)))

-- what the buffer holds then: the lines, and behind them what was there; all of that where it was refused
abbrev pub bytes_after : List Command → Result ℕ WriteRefusal → List ℕ → List ℕ
bytes_after cs (Ok count) old = written cs ++ drop (27 * count) old
bytes_after cs (Err why) old = old

-- the lines written are the text of the commands, each of them proper
abbrev pub WrittenSo : List Command → Result ℕ WriteRefusal → List ℕ → Type 0
WrittenSo cs (Ok count) after = TextOf cs (take (27 * count) after)
WrittenSo cs (Err why) after = Unit {0}
