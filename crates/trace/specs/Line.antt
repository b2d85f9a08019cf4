-- One trace line, and the command that it stands for.
use Rattle.std.specs.Prelude.{ℕ, ◌^◌, Bool, true, cond, ◌&&◌, List, [], ◌∷◌, ◌++◌, drop, Some, None, Option, ◌==◌, nat_lt}
use Rattle.rulebook.specs.Kinds.{kind_number, kind_of}
use Rattle.rulebook.specs.declared.command.Kind.TheVariants.{Idle, Activate, Precharge, Read, Write}
use Rattle.rulebook.specs.declared.command.Command.{Command}
use Rattle.trace.specs.Digits.{digits}
use Rattle.trace.specs.Fields.{and_then, with_field, is_feed}
use Rattle.trace.specs.declared.line.Front.{Front}
use Rattle.trace.specs.declared.line.Back.{Back}

-- each part of a command fits its digits
abbrev pub fits : Command → Bool
fits c =
    nat_lt c.cycle (16 ^ 8)
    && (nat_lt c.bank (16 ^ 1)
    && (nat_lt c.row (16 ^ 4)
    && (nat_lt c.column (16 ^ 3)
    && (nat_lt c.requester (16 ^ 1)
    && nat_lt c.number (16 ^ 8)))))

-- what a command of its kind has no use for is 0: row and column of a precharge, the column of an activate, all but the cycle of an idle line
abbrev pub blank : Command → Bool
blank c = elim c.kind [
  | Idle ↦ (c.bank == 0) && (c.row == 0 && (c.column == 0 && (c.requester == 0 && c.number == 0)))
  | Activate ↦ (c.column == 0)
  | Precharge ↦ (c.row == 0) && c.column == 0
  | Read ↦ true
  | Write ↦ true
]

-- a command that a line stands for
abbrev pub proper : Command → Bool
proper c = fits c && blank c

-- the line of a command: cycle 8, kind 1, bank 1, row 4, column 3, requester 1, number 8, and a line feed
abbrev pub line_of : Command → List ℕ
line_of c =
    digits 8 c.cycle
    ++ digits 1 (kind_number c.kind)
    ++ digits 1 c.bank
    ++ digits 4 c.row
    ++ digits 3 c.column
    ++ digits 1 c.requester
    ++ digits 8 c.number
    ++ 10 ∷ []

-- the first fields of a line: cycle 8, kind 1, bank 1, row 4
abbrev pub front_in : List ℕ → Option Front
front_in bs =
    with_field 8 bs (λ cycle r1.
    with_field 1 r1 (λ kind r2.
    and_then (kind_of kind) (λ known.
    with_field 1 r2 (λ bank r3.
    with_field 4 r3 (λ row r4.
    Some (record { cycle = cycle; kind = known; bank = bank; row = row }))))))

-- the bytes behind them
abbrev pub behind_front : List ℕ → List ℕ
behind_front bs = drop 4 (drop 1 (drop 1 (drop 8 bs)))

-- the last fields: column 3, requester 1, number 8; then a line feed, and nothing behind it
abbrev pub back_in : List ℕ → Option Back
back_in bs =
    with_field 3 bs (λ column r1.
    with_field 1 r1 (λ requester r2.
    with_field 8 r2 (λ number r3.
    cond (is_feed r3) (Some (record { column = column; requester = requester; number = number })) None)))

-- the command of all its fields
abbrev pub command_of : Front → Back → Command
command_of f b = record { cycle = f.cycle; kind = f.kind; bank = f.bank; row = f.row; column = b.column; requester = b.requester; number = b.number }

-- the command that a line stands for, if it is well formed
abbrev pub command_in : List ℕ → Option Command
command_in bs =
    and_then (front_in bs) (λ f.
    and_then (back_in (behind_front bs)) (λ b.
    cond (blank (command_of f b)) (Some (command_of f b)) None))
