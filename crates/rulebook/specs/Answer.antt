-- What the compact record answers to a command: a test for each rule, and the smallest rule that is broken.
use Rattle.std.specs.Prelude.{◌≡◌, ℕ, ◌+◌, Bool, true, false, cond, not, ◌&&◌, ◌||◌, List, [], ◌∷◌, is_some, Some, None, Ok, Err, Option, Result, ◌==◌, nat_le, nat_lt}
use Rattle.sheet.specs.declared.accepted.Sheet.{Sheet}
use Rattle.sheet.specs.declared.geometry.Chip.{Chip}
use Rattle.sheet.specs.Spans.{read_to_write, write_to_read, write_to_precharge}
use Rattle.rulebook.specs.declared.command.Command.{Command}
use Rattle.rulebook.specs.declared.command.Kind.{Kind}
use Rattle.rulebook.specs.declared.command.Kind.TheVariants.{Idle, Activate, Precharge, Read, Write}
use Rattle.rulebook.specs.declared.rule.Rule.{Rule}
use Rattle.rulebook.specs.declared.rule.Rule.TheVariants.{CyclesRise, InsideChip, ActivateClosed, PrechargeOpen, ColumnOpen, ActivateActivateSame, ActivateActivateOther, ActivatePrecharge, ActivateColumn, PrechargeActivate, ColumnColumn, ReadWrite, WriteRead, ReadPrecharge, WritePrecharge, FourActivates}
use Rattle.rulebook.specs.declared.bank.BankRecord.{BankRecord}
use Rattle.rulebook.specs.declared.book.Book.{Book}
use Rattle.rulebook.specs.Kinds.{same_kind}
use Rattle.rulebook.specs.Record.{bank_of, book_with}

-- a cycle comes before the gap after an earlier one has passed; nothing is too soon after what never happened
abbrev pub too_soon : Option ℕ → ℕ → ℕ → Bool
too_soon None gap cycle = false
too_soon (Some earlier) gap cycle = nat_lt cycle (earlier + gap)

-- the newest activate of all, unless it is the one of the bank itself
abbrev pub newest_elsewhere : Option ℕ → Option ℕ → Option ℕ
newest_elsewhere None own = None
newest_elsewhere (Some newest) None = Some newest
newest_elsewhere (Some newest) (Some own) = cond (newest == own) None (Some newest)

-- a command lies outside the chip
abbrev pub outside : Chip → Command → Bool
outside k c = nat_le k.banks c.bank || (nat_le k.rows c.row || nat_le k.columns c.column)

-- a bank is open at a row
abbrev pub open_at : Option ℕ → ℕ → Bool
open_at None row = false
open_at (Some r) row = r == row

-- a kind is a column command
abbrev pub is_column : Kind → Bool
is_column d = same_kind d Read || same_kind d Write

-- whether a rule asks something of commands of a kind
abbrev pub binds : Rule → Kind → Bool
binds CyclesRise d = true
binds InsideChip d = true
binds ActivateClosed d = same_kind d Activate
binds PrechargeOpen d = same_kind d Precharge
binds ColumnOpen d = is_column d
binds ActivateActivateSame d = same_kind d Activate
binds ActivateActivateOther d = same_kind d Activate
binds ActivatePrecharge d = same_kind d Precharge
binds ActivateColumn d = is_column d
binds PrechargeActivate d = same_kind d Activate
binds ColumnColumn d = is_column d
binds ReadWrite d = same_kind d Write
binds WriteRead d = same_kind d Read
binds ReadPrecharge d = same_kind d Precharge
binds WritePrecharge d = same_kind d Precharge
binds FourActivates d = same_kind d Activate

-- the latest column command of a kind, in any bank
abbrev pub latest_column : Book → Kind → Option ℕ
latest_column b Idle = None
latest_column b Activate = None
latest_column b Precharge = None
latest_column b Read = b.read
latest_column b Write = b.write

-- what the record b says by each rule against a command of a kind that the rule binds; n is the record of its bank, and out whether it lies outside the chip
abbrev pub against : Bool → Sheet → Book → BankRecord → Command → Rule → Bool
against out s b n c CyclesRise = too_soon b.latest 1 c.cycle
against out s b n c InsideChip = out
against out s b n c ActivateClosed = is_some n.open_row
against out s b n c PrechargeOpen = not (is_some n.open_row)
against out s b n c ColumnOpen = not (open_at n.open_row c.row)
against out s b n c ActivateActivateSame = too_soon n.activate s.rc.0 c.cycle
against out s b n c ActivateActivateOther = too_soon (newest_elsewhere b.recent.newest n.activate) s.rrd.0 c.cycle
against out s b n c ActivatePrecharge = too_soon n.activate s.ras.0 c.cycle
against out s b n c ActivateColumn = too_soon n.activate s.rcd.0 c.cycle
against out s b n c PrechargeActivate = too_soon n.precharge s.rp.0 c.cycle
against out s b n c ColumnColumn = too_soon (latest_column b c.kind) s.ccd.0 c.cycle
against out s b n c ReadWrite = too_soon b.read (read_to_write s) c.cycle
against out s b n c WriteRead = too_soon b.write (write_to_read s) c.cycle
against out s b n c ReadPrecharge = too_soon n.read s.rtp.0 c.cycle
against out s b n c WritePrecharge = too_soon n.write (write_to_precharge s) c.cycle
against out s b n c FourActivates = too_soon b.recent.fourth s.faw.0 c.cycle

-- a command breaks a rule, as far as the record tells
abbrev pub breaks : Sheet → Chip → Book → Command → Rule → Bool
breaks s k b c r = binds r c.kind && against (outside k c) s b (bank_of b c) c r

-- the first of some rules that is broken
abbrev pub first_broken : (Rule → Bool) → List Rule → Option Rule
first_broken broken [] = None
first_broken broken (r ∷ rs) = cond (broken r) (Some r) (first_broken broken rs)

-- the rules that bind an activate, after the first two
abbrev pub activate_rules : List Rule
activate_rules = ActivateClosed ∷ ActivateActivateSame ∷ ActivateActivateOther ∷ PrechargeActivate ∷ FourActivates ∷ []

-- the rules that bind a precharge, after the first two
abbrev pub precharge_rules : List Rule
precharge_rules = PrechargeOpen ∷ ActivatePrecharge ∷ ReadPrecharge ∷ WritePrecharge ∷ []

-- the rules that bind a read, after the first two
abbrev pub read_rules : List Rule
read_rules = ColumnOpen ∷ ActivateColumn ∷ ColumnColumn ∷ WriteRead ∷ []

-- the rules that bind a write, after the first two
abbrev pub write_rules : List Rule
write_rules = ColumnOpen ∷ ActivateColumn ∷ ColumnColumn ∷ ReadWrite ∷ []

-- all rules in order
abbrev pub all_rules : List Rule
all_rules =
    CyclesRise
    ∷ InsideChip
    ∷ ActivateClosed
    ∷ PrechargeOpen
    ∷ ColumnOpen
    ∷ ActivateActivateSame
    ∷ ActivateActivateOther
    ∷ ActivatePrecharge
    ∷ ActivateColumn
    ∷ PrechargeActivate
    ∷ ColumnColumn
    ∷ ReadWrite
    ∷ WriteRead
    ∷ ReadPrecharge
    ∷ WritePrecharge
    ∷ FourActivates
    ∷ []

-- the smallest rule that a command breaks
abbrev pub broken_rule : Sheet → Chip → Book → Command → Option Rule
broken_rule s k b c = first_broken (breaks s k b c) all_rules

-- ok where no rule is broken, else the rule
abbrev pub answer_by : Option Rule → Result Unit Rule
answer_by None = Ok tt
answer_by (Some r) = Err r

-- the new record where no rule is broken, else the old one
abbrev pub book_by : Option Rule → Book → Book → Book
book_by None old new = new
book_by (Some r) old new = old

-- the answer to a command: ok, or the smallest rule that it breaks
abbrev pub answer_to : Sheet → Chip → Book → Command → Result Unit Rule
answer_to s k b c = answer_by (broken_rule s k b c)

-- the record after a command: with it, or as it was
abbrev pub book_after : Sheet → Chip → Book → Command → Book
book_after s k b c = book_by (broken_rule s k b c) b (book_with b c)

-- a refusal changes nothing
abbrev pub Kept : Result Unit Rule → Book → Book → Type 0
Kept (Ok u) old new = Unit {0}
Kept (Err r) old new = new ≡ old
