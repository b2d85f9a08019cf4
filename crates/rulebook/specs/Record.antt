-- The compact record: the empty one, and what becomes of it as a command is taken in.
use Rattle.std.specs.Prelude.{ℕ, cond, replicate, Some, None, Option, nat_lt, slice_index_or, slice_set}
use Rattle.rulebook.specs.declared.command.Command.{Command}
use Rattle.rulebook.specs.declared.command.Kind.{Kind}
use Rattle.rulebook.specs.declared.command.Kind.TheVariants.{Activate, Precharge, Read, Write}
use Rattle.rulebook.specs.declared.bank.BankRecord.{BankRecord}
use Rattle.rulebook.specs.declared.bank.Recent.{Recent}
use Rattle.rulebook.specs.declared.book.Book.{Book}
use Rattle.rulebook.specs.Kinds.{same_kind}
use Rattle.rulebook.specs.Book.{row_after}

-- a closed bank to which nothing was ever sent
abbrev pub no_bank : BankRecord
no_bank = record { open_row = None; activate = None; precharge = None; read = None; write = None }

-- no activate yet
abbrev pub no_recent : Recent
no_recent = record { newest = None; second = None; third = None; fourth = None }

-- the record of the empty history
abbrev pub no_book : Book
no_book = record { latest = None; banks = replicate 16 no_bank; read = None; write = None; recent = no_recent }

-- the latest of a kind, once a command has come
abbrev pub noted : Kind → Command → Option ℕ → Option ℕ
noted d c was = cond (same_kind c.kind d) (Some c.cycle) was

-- a bank's record once a command has been sent to it
abbrev pub bank_after : BankRecord → Command → BankRecord
bank_after b c = record {
  open_row = row_after c.kind c.row b.open_row;
  activate = noted Activate c b.activate;
  precharge = noted Precharge c b.precharge;
  read = noted Read c b.read;
  write = noted Write c b.write;
}

-- the last four activates and one more
abbrev pub recent_with : Recent → ℕ → Recent
recent_with n cycle = record { newest = Some cycle; second = n.newest; third = n.second; fourth = n.third }

-- the last four activates once a command has come
abbrev pub recent_after : Recent → Command → Recent
recent_after n c = cond (same_kind c.kind Activate) (recent_with n c.cycle) n

-- the record of the bank that a command goes to
abbrev pub bank_of : Book → Command → BankRecord
bank_of b c = slice_index_or b.banks c.bank no_bank

-- the record once a command has been taken in: of the banks, only the command's own changes
abbrev pub book_with : Book → Command → Book
book_with b c = record {
  latest = Some c.cycle;
  banks = slice_set b.banks c.bank (bank_after (bank_of b c) c);
  read = noted Read c b.read;
  write = noted Write c b.write;
  recent = recent_after b.recent c;
}

-- the row at which a bank is open; none where it is closed or where there is no such bank
abbrev pub open_row_of : Book → ℕ → Option ℕ
open_row_of b i = cond (nat_lt i 16) (slice_index_or b.banks i no_bank).open_row None
