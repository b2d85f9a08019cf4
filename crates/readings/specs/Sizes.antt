-- The small sheet's sizes, and rounding up.
use Rattle.std.specs.Prelude.{◌≡◌, ℕ, ◌≤◌, true, false, Ok}
use Rattle.sheet.specs.Units.{rounded_up}
use Rattle.sheet.specs.Making.{in_order, sheet_made, chip_made}
use Rattle.sheet.specs.Spans.{to_precharge, to_activate, to_column, span}
use Rattle.sheet.specs.declared.accepted.Sheet.{Sheet}
use Rattle.sheet.specs.declared.geometry.Chip.{Chip}
use Rattle.policy.specs.Meaning.{first_come, turn_order}
use Rattle.policy.specs.Orders.{policy_made}
use Rattle.readings.specs.Small.{small_timings, small_values, small_sheet, small_chip, first_of_two, turns_of_two}

-- At every period the counts alone make the small sheet, and no other sheet has its values; its stretches are 13, 12 and 11 and its span is 36. The chip's sizes make the small chip and no other, and both orders are made for that span.
pub record SmallSizes : Type 0 where
  pub made_of_counts : (period : ℕ) → 1 ≤ period → period ≤ 100000 → sheet_made period small_timings ≡ Ok small_values
  pub accepted : in_order small_sheet ≡ small_values
  pub no_other_sheet : (s : Sheet) → in_order s ≡ small_values → s ≡ small_sheet
  pub thirteen : to_precharge small_sheet ≡ 13
  pub twelve : to_activate small_sheet ≡ 12
  pub eleven : to_column small_sheet ≡ 11
  pub thirty_six : (k : Chip) → span small_sheet k ≡ 36
  pub chip_accepted : chip_made 8 1024 64 ≡ Ok (small_chip.banks, small_chip.rows, small_chip.columns)
  pub no_other_chip : (k : Chip) → k.banks ≡ 8 → k.rows ≡ 1024 → k.columns ≡ 64 → k ≡ small_chip
  pub first_come_made : policy_made first_come false 2 2 36 8 ≡ Ok first_of_two
  pub turn_order_made : policy_made turn_order true 2 2 36 8 ≡ Ok turns_of_two

-- At a period of 1,250 picoseconds 13,750 picoseconds are 11 cycles, and one more is 12.
pub record RoundingUp : Type 0 where
  pub even : rounded_up 13750 1250 ≡ 11
  pub one_more : rounded_up 13751 1250 ≡ 12
