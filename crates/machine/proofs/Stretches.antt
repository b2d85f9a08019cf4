-- The three stretches of a service, kept shut, and the laws that say when each kind of command is lawful.
use Rattle.std.proofs.Common.{◌≡◌, ℕ, ◌+◌, ◌≤◌, ◌≢◌, List, Some, None, refl, arith}
use Rattle.sheet.specs.declared.accepted.Sheet.{Sheet}
use Rattle.sheet.specs.declared.geometry.Chip.{Chip}
use Rattle.sheet.specs.Spans.{to_precharge, to_activate, to_column, span}
use Rattle.rulebook.specs.declared.command.Command.{Command}
use Rattle.rulebook.specs.declared.command.Kind.TheVariants.{Activate, Precharge}
use Rattle.rulebook.specs.Book.{Column, open_row, Inside, AllBefore, Lawful}
use Rattle.rulebook.proofs.Lawful.{precharge_in_time, activate_in_time, column_in_time}

-- stretches A, B and C
unfoldable pub closing : Sheet → ℕ
closing s = to_precharge s

unfoldable pub opening : Sheet → ℕ
opening s = to_activate s

unfoldable pub moving : Sheet → ℕ
moving s = to_column s

-- the span is the three together, and each is a cycle or more
pub span_is : (s : Sheet) (k : Chip) → span s k ≡ closing s + opening s + moving s
unfolding closing opening moving
span_is s k = refl

pub some_closing : (s : Sheet) → 1 ≤ closing s
unfolding closing
some_closing s = omega (arith, s.ras_in)

pub some_opening : (s : Sheet) → 1 ≤ opening s
unfolding opening
some_opening s = omega (arith, s.rp_in)

pub some_moving : (s : Sheet) → 1 ≤ moving s
unfolding moving
some_moving s = omega (arith, s.rcd_in)

pub precharge_lawful : (s : Sheet) (k : Chip) (h : List Command) (c : Command) (t : ℕ) → c.kind ≡ Precharge → Inside k c → open_row c.bank h ≢ None → AllBefore t h → t + closing s ≤ c.cycle + 1 → Lawful s k h c
unfolding closing
precharge_lawful s k h c t = precharge_in_time s k h c t

pub activate_lawful : (s : Sheet) (k : Chip) (h : List Command) (c : Command) (t : ℕ) → c.kind ≡ Activate → Inside k c → open_row c.bank h ≡ None → AllBefore t h → t + opening s ≤ c.cycle + 1 → Lawful s k h c
unfolding opening
activate_lawful s k h c t = activate_in_time s k h c t

pub column_lawful : (s : Sheet) (k : Chip) (h : List Command) (c : Command) (t : ℕ) → Column c.kind → Inside k c → open_row c.bank h ≡ Some c.row → AllBefore t h → t + moving s ≤ c.cycle + 1 → Lawful s k h c
unfolding moving
column_lawful s k h c t = column_in_time s k h c t
