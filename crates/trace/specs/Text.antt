-- Text as trace lines: it is cut every 27 bytes, and a shorter last piece is a line too.
use Rattle.std.specs.Prelude.{◌≡◌, ℕ, zero, suc, ◌*◌, Bool, true, not, List, [], ◌∷◌, map, length, take, drop, is_some, Some}
use Rattle.std.specs.List.{flat_map}
use Rattle.std.specs.Option.{unwrap_or}
use Rattle.sheet.specs.Units.{rounded_up}
use Rattle.rulebook.specs.declared.command.Kind.TheVariants.{Idle}
use Rattle.rulebook.specs.declared.command.Command.{Command}
use Rattle.trace.specs.Line.{proper, line_of, command_in}

-- how many lines a text has
abbrev pub line_count : List ℕ → ℕ
line_count text = rounded_up (length text) 27

-- line k of a text, counted from 0; empty behind the last
abbrev pub line_at : List ℕ → ℕ → List ℕ
line_at text k = take 27 (drop (27 * k) text)

-- the first n pieces of 27 bytes
abbrev pub pieces : ℕ → List ℕ → List (List ℕ)
pieces zero bs = []
pieces (suc n) bs = take 27 bs ∷ pieces n (drop 27 bs)

-- the lines of a text
unfoldable pub lines_of : List ℕ → List (List ℕ)
lines_of text = pieces (line_count text) text

-- the text that is written of commands: their lines, one behind the other
abbrev pub written : List Command → List ℕ
written cs = flat_map line_of cs

-- each command is proper
abbrev pub AllProper : List Command → Type 0
AllProper [] = Unit {0}
AllProper (c ∷ cs) = (proper c ≡ true) × AllProper cs

-- the lines of a text stand for these commands, one for one
abbrev pub ReadsAs : List ℕ → List Command → Type 0
ReadsAs text cs = map command_in (lines_of text) ≡ map Some cs

-- a text is what is written of these commands, and each of them is proper
abbrev pub TextOf : List Command → List ℕ → Type 0
TextOf cs text = AllProper cs × (text ≡ written cs)

-- A text reads as a list of commands exactly when it is the text written of that list, and every proper list is read back.
pub record LinesCorrespond : Type 0 where
  pub only_so : (text : List ℕ) (cs : List Command) → ReadsAs text cs → TextOf cs text
  pub read_back : (text : List ℕ) (cs : List Command) → TextOf cs text → ReadsAs text cs

-- a line that stands for no command
unfoldable pub malformed : List ℕ → Bool
malformed line = not (is_some (command_in line))

-- the command of an idle line at cycle 0
abbrev pub no_command : Command
no_command = record { cycle = 0; kind = Idle; bank = 0; row = 0; column = 0; requester = 0; number = 0 }

-- the command that a line stands for
unfoldable pub command_at : List ℕ → Command
command_at line = unwrap_or (command_in line) no_command
