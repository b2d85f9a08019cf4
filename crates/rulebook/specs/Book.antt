-- The rule book: what each of the sixteen rules says of a command after the commands before it, and what a trace is that obeys them.
use Rattle.std.specs.Prelude.{◌≡◌, ℕ, ◌+◌, ◌<◌, ◌≤◌, cond, ◌≢◌, List, [], ◌∷◌, ◌++◌, Some, None, Option, ◌==◌}
use Rattle.sheet.specs.declared.accepted.Sheet.{Sheet}
use Rattle.sheet.specs.declared.geometry.Chip.{Chip}
use Rattle.sheet.specs.Spans.{read_to_write, write_to_read, write_to_precharge}
use Rattle.rulebook.specs.declared.command.Command.{Command}
use Rattle.rulebook.specs.declared.command.Kind.{Kind}
use Rattle.rulebook.specs.declared.command.Kind.TheVariants.{Idle, Activate, Precharge, Read, Write}
use Rattle.rulebook.specs.declared.rule.Rule.{Rule}
use Rattle.rulebook.specs.declared.rule.Rule.TheVariants.{CyclesRise, InsideChip, ActivateClosed, PrechargeOpen, ColumnOpen, ActivateActivateSame, ActivateActivateOther, ActivatePrecharge, ActivateColumn, PrechargeActivate, ColumnColumn, ReadWrite, WriteRead, ReadPrecharge, WritePrecharge, FourActivates}
use Rattle.rulebook.specs.Kinds.{same_kind}

-- a rule's number
abbrev pub rule_number : Rule → ℕ
rule_number CyclesRise = 1
rule_number InsideChip = 2
rule_number ActivateClosed = 3
rule_number PrechargeOpen = 4
rule_number ColumnOpen = 5
rule_number ActivateActivateSame = 6
rule_number ActivateActivateOther = 7
rule_number ActivatePrecharge = 8
rule_number ActivateColumn = 9
rule_number PrechargeActivate = 10
rule_number ColumnColumn = 11
rule_number ReadWrite = 12
rule_number WriteRead = 13
rule_number ReadPrecharge = 14
rule_number WritePrecharge = 15
rule_number FourActivates = 16

-- every command of a list is such
abbrev pub Every : (Command → Type 0) → List Command → Type 0
Every P [] = Unit {0}
Every P (c ∷ cs) = P c × Every P cs

-- a command is of a kind
abbrev pub Of : Kind → Command → Type 0
Of d a = a.kind ≡ d

-- a command is of a kind and goes to a bank
abbrev pub At : Kind → ℕ → Command → Type 0
At d i a = (a.kind ≡ d) × (a.bank ≡ i)

-- a command is of a kind and goes to another bank
abbrev pub Elsewhere : Kind → ℕ → Command → Type 0
Elsewhere d i a = (a.kind ≡ d) × (a.bank ≢ i)

-- read and write are the column commands
abbrev pub Column : Kind → Type 0
Column Idle = ⊥
Column Activate = ⊥
Column Precharge = ⊥
Column Read = Unit {0}
Column Write = Unit {0}

-- every earlier command of a sort comes n cycles before this one, or more
abbrev pub Apart : (Command → Type 0) → ℕ → List Command → Command → Type 0
Apart P n before c = Every (λ a. P a → a.cycle + n ≤ c.cycle) before

-- what a command of a kind at a row makes of a bank's open row: an activate opens the bank at that row, a precharge closes it
abbrev pub row_after : Kind → ℕ → Option ℕ → Option ℕ
row_after Idle row was = was
row_after Activate row was = Some row
row_after Precharge row was = None
row_after Read row was = was
row_after Write row was = was

-- what a command makes of the open row of a bank that it may go to or not
abbrev pub opened_by : ℕ → Option ℕ → Command → Option ℕ
opened_by i was c = cond (c.bank == i) (row_after c.kind c.row was) was

-- the row at which a bank is open after some commands, oldest first, from what it was before them
abbrev pub opened_from : ℕ → Option ℕ → List Command → Option ℕ
opened_from i was [] = was
opened_from i was (c ∷ cs) = opened_from i (opened_by i was c) cs

-- the row at which a bank is open after a history; none where it is closed, as all banks are at the start
abbrev pub open_row : ℕ → List Command → Option ℕ
open_row i h = opened_from i None h

-- the activates of a history, in order
abbrev pub activates : List Command → List Command
activates [] = []
activates (c ∷ cs) = cond (same_kind c.kind Activate) (c ∷ activates cs) (activates cs)

-- a command lies inside the chip
abbrev pub Inside : Chip → Command → Type 0
Inside k c = (c.bank < k.banks) × (c.row < k.rows) × (c.column < k.columns)

-- every command of a list lies before a cycle
abbrev pub AllBefore : ℕ → List Command → Type 0
AllBefore t cs = Every (λ a. a.cycle < t) cs

-- what each rule says of a command c after the commands before it
abbrev pub Holds : Sheet → Chip → Rule → List Command → Command → Type 0
-- 1: cycles rise strictly
Holds s k CyclesRise before c = AllBefore c.cycle before
-- 2: bank, row and column are inside the chip
Holds s k InsideChip before c = Inside k c
-- 3: an activate goes to a closed bank
Holds s k ActivateClosed before c = c.kind ≡ Activate → open_row c.bank before ≡ None
-- 4: a precharge goes to an open bank
Holds s k PrechargeOpen before c = c.kind ≡ Precharge → open_row c.bank before ≢ None
-- 5: a read or write goes to a bank open at its row
Holds s k ColumnOpen before c = Column c.kind → open_row c.bank before ≡ Some c.row
-- 6: activate to activate, same bank: tRC
Holds s k ActivateActivateSame before c = c.kind ≡ Activate → Apart (At Activate c.bank) s.rc.0 before c
-- 7: activate to activate, another bank: tRRD
Holds s k ActivateActivateOther before c = c.kind ≡ Activate → Apart (Elsewhere Activate c.bank) s.rrd.0 before c
-- 8: activate to precharge, same bank: tRAS
Holds s k ActivatePrecharge before c = c.kind ≡ Precharge → Apart (At Activate c.bank) s.ras.0 before c
-- 9: activate to read or write, same bank: tRCD
Holds s k ActivateColumn before c = Column c.kind → Apart (At Activate c.bank) s.rcd.0 before c
-- 10: precharge to activate, same bank: tRP
Holds s k PrechargeActivate before c = c.kind ≡ Activate → Apart (At Precharge c.bank) s.rp.0 before c
-- 11: read to read and write to write, any banks: tCCD
Holds s k ColumnColumn before c = Column c.kind → Apart (Of c.kind) s.ccd.0 before c
-- 12: read to write, any banks: RL + tCCD + 2 - WL
Holds s k ReadWrite before c = c.kind ≡ Write → Apart (Of Read) (read_to_write s) before c
-- 13: write to read, any banks: WL + BURST + tWTR
Holds s k WriteRead before c = c.kind ≡ Read → Apart (Of Write) (write_to_read s) before c
-- 14: read to precharge, same bank: tRTP
Holds s k ReadPrecharge before c = c.kind ≡ Precharge → Apart (At Read c.bank) s.rtp.0 before c
-- 15: write to precharge, same bank: WL + BURST + tWR
Holds s k WritePrecharge before c = c.kind ≡ Precharge → Apart (At Write c.bank) (write_to_precharge s) before c
-- 16: the fifth of any five successive activates comes tFAW after the first, or later
Holds s k FourActivates before c = c.kind ≡ Activate → (old : List Command) (a₁ a₂ a₃ a₄ : Command) →
    activates before ≡ old ++ (a₁ ∷ a₂ ∷ a₃ ∷ a₄ ∷ []) → a₁.cycle + s.faw.0 ≤ c.cycle

-- a command is lawful after a history: it keeps every rule
abbrev pub Lawful : Sheet → Chip → List Command → Command → Type 0
Lawful s k h c = (r : Rule) → Holds s k r h c

-- a trace obeys the book: each of its commands is lawful after the commands before it
abbrev pub Obeys : Sheet → Chip → List Command → Type 0
Obeys s k trace = (before : List Command) (c : Command) (rest : List Command) → trace ≡ before ++ (c ∷ rest) → Lawful s k before c
