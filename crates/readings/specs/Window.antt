-- The activate window: five activates in five banks of the small board.
use Rattle.std.specs.Prelude.{◌≡◌, ℕ, List, [], ◌∷◌, ◌++◌, Ok, Err, Result}
use Rattle.sheet.specs.declared.accepted.Sheet.{Sheet}
use Rattle.sheet.specs.declared.geometry.Chip.{Chip}
use Rattle.rulebook.specs.declared.command.Command.{Command}
use Rattle.rulebook.specs.declared.command.Kind.TheVariants.{Activate}
use Rattle.rulebook.specs.declared.rule.Rule.TheVariants.{FourActivates}
use Rattle.rulebook.specs.Book.{Obeys, rule_number}
use Rattle.checker.specs.declared.refusals.RecordRefusal.{RecordRefusal}
use Rattle.checker.specs.declared.refusals.RecordRefusal.TheVariants.{Broken}
use Rattle.checker.specs.Judging.{Breaks, Judged}
use Rattle.readings.specs.Small.{small_sheet, small_chip}

-- An activate of a bank's row 0 in a cycle.
abbrev pub activate_at : ℕ → ℕ → Command
activate_at cycle bank = record { cycle = cycle; kind = Activate; bank = bank; row = 0; column = 0; requester = 0; number = 0 }

-- Activates of four banks in the cycles 1, 3, 5 and 7.
abbrev pub four_activates : List Command
four_activates = activate_at 1 0 ∷ activate_at 3 1 ∷ activate_at 5 2 ∷ activate_at 7 3 ∷ []

-- The same and one of a fifth bank in this cycle.
abbrev pub five_activates : ℕ → List Command
five_activates cycle = four_activates ++ (activate_at cycle 4 ∷ [])

-- Judging these records has this answer by the checker's promise, and no other.
pub record JudgedOnly (s : Sheet) (k : Chip) (cs : List Command) (answer : Result ℕ RecordRefusal) : Type 0 where
  pub so : Judged s k cs answer
  pub only : (other : Result ℕ RecordRefusal) → Judged s k cs other → other ≡ answer

-- Four activates obey; with a fifth in cycle 12 the fifth breaks rule 16 and no smaller one, and with it in cycle 13 all obey; the checker answers so.
pub record ActivateWindow : Type 0 where
  pub four_obey : Obeys small_sheet small_chip four_activates
  pub twelve_breaks : Breaks small_sheet small_chip four_activates (activate_at 12 4) FourActivates
  pub which_is_sixteen : rule_number FourActivates ≡ 16
  pub twelve_refused : JudgedOnly small_sheet small_chip (five_activates 12) (Err (Broken 4 FourActivates))
  pub thirteen_obeys : Obeys small_sheet small_chip (five_activates 13)
  pub thirteen_passes : JudgedOnly small_sheet small_chip (five_activates 13) (Ok 5)
