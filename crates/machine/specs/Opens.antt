-- What a machine opens with, and what is promised of every machine so opened.
use Rattle.std.specs.Prelude.{◌≡◌, ℕ, ◌≤◌, []}
use Rattle.sheet.specs.declared.accepted.Sheet.{Sheet}
use Rattle.sheet.specs.declared.geometry.Chip.{Chip}
use Rattle.sheet.specs.Spans.{span}
use Rattle.policy.specs.Meaning.{Meaning, WellShaped}
use Rattle.machine.specs.Machine.{Machine, opened}

-- A last cycle is 1 to 4,000,000,000, and a policy is well shaped, has nothing waiting, and is made for the sheet's span and the chip's banks.
pub record Fits (s : Sheet) (k : Chip) (last : ℕ) (p : Meaning) : Type 0 where
  pub last_in : (1 ≤ last) × (last ≤ 4000000000)
  pub shaped : WellShaped p
  pub nothing_waits : p.waiting ≡ []
  pub span_fits : p.span ≡ span s k
  pub banks_fit : p.banks ≡ k.banks

-- A promise holds of every opened machine: for every accepted sheet, chip, last cycle and policy that fits.
abbrev pub WheneverOpened : (Machine → Type 0) → Type 0
WheneverOpened P = (s : Sheet) (k : Chip) (last : ℕ) (p : Meaning) → Fits s k last p → P (opened s k last p)
