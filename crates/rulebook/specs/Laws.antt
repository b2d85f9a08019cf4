-- What callers may count on of the rule book, for every sheet, chip and history.
use Rattle.std.specs.Prelude.{◌≡◌, ℕ, ◌+◌, ◌≤◌, ◌≢◌, List, [], ◌∷◌, ◌++◌, Some, None}
use Rattle.sheet.specs.declared.accepted.Sheet.{Sheet}
use Rattle.sheet.specs.declared.geometry.Chip.{Chip}
use Rattle.sheet.specs.Spans.{to_precharge, to_activate, to_column}
use Rattle.rulebook.specs.declared.command.Command.{Command}
use Rattle.rulebook.specs.declared.command.Kind.TheVariants.{Activate, Precharge}
use Rattle.rulebook.specs.Book.{Column, open_row, Inside, AllBefore, Lawful, Obeys}

-- the empty trace obeys
abbrev pub NothingObeys : Type 0
NothingObeys = (s : Sheet) (k : Chip) → Obeys s k []

-- every front part of a trace that obeys obeys
abbrev pub PrefixesObey : Type 0
PrefixesObey = (s : Sheet) (k : Chip) (front rest : List Command) → Obeys s k (front ++ rest) → Obeys s k front

-- a trace that obeys still obeys with a lawful command after it
abbrev pub LawfulCommandsExtend : Type 0
LawfulCommandsExtend = (s : Sheet) (k : Chip) (h : List Command) (c : Command) → Obeys s k h → Lawful s k h c → Obeys s k (h ++ (c ∷ []))

-- the last command of a trace that obeys is lawful after those before it
abbrev pub LastIsLawful : Type 0
LastIsLawful = (s : Sheet) (k : Chip) (h : List Command) (c : Command) → Obeys s k (h ++ (c ∷ [])) → Lawful s k h c

-- the same command in another cycle
abbrev pub in_cycle : ℕ → Command → Command
in_cycle t c = record { cycle = t; kind = c.kind; bank = c.bank; row = c.row; column = c.column; requester = c.requester; number = c.number }

-- a command that is lawful now stays lawful in every later cycle while nothing else is issued
abbrev pub StaysLawful : Type 0
StaysLawful = (s : Sheet) (k : Chip) (h : List Command) (c : Command) (t : ℕ) → Lawful s k h c → c.cycle ≤ t → Lawful s k h (in_cycle t c)

-- where all commands lie before cycle t, a precharge of an open bank is lawful from t - 1 + A on, A being the first stretch
abbrev pub PrechargeInTime : Type 0
PrechargeInTime = (s : Sheet) (k : Chip) (h : List Command) (c : Command) (t : ℕ) → c.kind ≡ Precharge → Inside k c → open_row c.bank h ≢ None →
    AllBefore t h → t + to_precharge s ≤ c.cycle + 1 → Lawful s k h c

-- where all commands lie before cycle t, an activate of a closed bank is lawful from t - 1 + B on, B being the second stretch
abbrev pub ActivateInTime : Type 0
ActivateInTime = (s : Sheet) (k : Chip) (h : List Command) (c : Command) (t : ℕ) → c.kind ≡ Activate → Inside k c → open_row c.bank h ≡ None →
    AllBefore t h → t + to_activate s ≤ c.cycle + 1 → Lawful s k h c

-- where all commands lie before cycle t, a read or write of a bank open at its row is lawful from t - 1 + C on, C being the third stretch
abbrev pub ColumnInTime : Type 0
ColumnInTime = (s : Sheet) (k : Chip) (h : List Command) (c : Command) (t : ℕ) → Column c.kind → Inside k c → open_row c.bank h ≡ Some c.row →
    AllBefore t h → t + to_column s ≤ c.cycle + 1 → Lawful s k h c
