-- What the compact record says of the whole history, and what the answer to a command promises.
use Rattle.std.specs.Prelude.{◌≡◌, ℕ, zero, suc, ◌<◌, ◌≤◌, List, [], ◌∷◌, ◌++◌, reverse, length, Some, None, Ok, Err, Option, Result, slice_index_or}
use Rattle.sheet.specs.declared.accepted.Sheet.{Sheet}
use Rattle.sheet.specs.declared.geometry.Chip.{Chip}
use Rattle.rulebook.specs.declared.command.Command.{Command}
use Rattle.rulebook.specs.declared.command.Kind.TheVariants.{Activate, Precharge, Read, Write}
use Rattle.rulebook.specs.declared.rule.Rule.{Rule}
use Rattle.rulebook.specs.declared.bank.BankRecord.{BankRecord}
use Rattle.rulebook.specs.declared.bank.Recent.{Recent}
use Rattle.rulebook.specs.declared.book.Book.{Book}
use Rattle.rulebook.specs.Book.{Every, Of, At, open_row, activates, Holds, Obeys, rule_number}
use Rattle.rulebook.specs.Record.{no_bank}

-- the cycle of the latest such command of a history: none is later, and not all are earlier; absent where there is no such command
abbrev pub Latest : (Command → Type 0) → List Command → Option ℕ → Type 0
Latest P h None = Every (λ a. P a → ⊥) h
Latest P h (Some e) = Every (λ a. P a → a.cycle ≤ e) h × (Every (λ a. P a → a.cycle < e) h → ⊥)

-- one bank's record keeps its open row and its latest activate, precharge, read and write
pub record BankSummarises (h : List Command) (i : ℕ) (b : BankRecord) : Type 0 where
  pub open_is : b.open_row ≡ open_row i h
  pub activate_is : Latest (At Activate i) h b.activate
  pub precharge_is : Latest (At Precharge i) h b.precharge
  pub read_is : Latest (At Read i) h b.read
  pub write_is : Latest (At Write i) h b.write

-- the cycle of the command at a place of a list, from 0, if there is one
abbrev pub cycle_at : ℕ → List Command → Option ℕ
cycle_at n [] = None
cycle_at zero (c ∷ cs) = Some c.cycle
cycle_at (suc n) (c ∷ cs) = cycle_at n cs

-- the cycles of the first four commands of a list
abbrev pub first_four : List Command → Recent
first_four cs = record { newest = cycle_at 0 cs; second = cycle_at 1 cs; third = cycle_at 2 cs; fourth = cycle_at 3 cs }

-- a record summarises a history: its latest cycle, sixteen bank records, the latest read and write of any bank, and the last four activates, the newest first
pub record Summarises (h : List Command) (b : Book) : Type 0 where
  pub latest_is : Latest (λ a. Unit {0}) h b.latest
  pub sixteen : length b.banks ≡ 16
  pub banks_are : (i : ℕ) → i < 16 → BankSummarises h i (slice_index_or b.banks i no_bank)
  pub read_is : Latest (Of Read) h b.read
  pub write_is : Latest (Of Write) h b.write
  pub recent_is : b.recent ≡ first_four (reverse (activates h))

-- what the answer to a command after a history says: ok, and the longer history obeys and is summarised by the new record; or the smallest rule that the command breaks, and the longer history does not obey
abbrev pub Answered : Sheet → Chip → List Command → Command → Result Unit Rule → Book → Type 0
Answered s k h c (Ok u) new = Obeys s k (h ++ (c ∷ [])) × Summarises (h ++ (c ∷ [])) new
Answered s k h c (Err r) new =
    (Obeys s k (h ++ (c ∷ [])) → ⊥) × (Holds s k r h c → ⊥) × ((q : Rule) → rule_number q < rule_number r → Holds s k q h c)

-- the promise of an answer: after every history that the old record summarises and that obeys, it says what is so
abbrev pub Judges : Sheet → Chip → Book → Command → Result Unit Rule → Book → Type 0
Judges s k old c answer new = (h : List Command) → Summarises h old → Obeys s k h → Answered s k h c answer new
