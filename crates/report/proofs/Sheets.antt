-- Two boards that are told alike have the same gaps.
use Rattle.std.proofs.Common.{◌≡◌, List, [], Ok, Err, Result, refl, ap}
use Rattle.sheet.specs.Making.{in_order, Refused}
use Rattle.sheet.specs.declared.accepted.Sheet.{Sheet}
use Rattle.sheet.specs.declared.board.Board.{Board}
use Rattle.sheet.specs.declared.units.Cycles.{Cycles}
use Rattle.rulebook.specs.declared.rule.Rule.{Rule}
use Rattle.rulebook.specs.declared.rule.Rule.TheVariants.{CyclesRise, InsideChip, ActivateClosed, PrechargeOpen, ColumnOpen, ActivateActivateSame, ActivateActivateOther, ActivatePrecharge, ActivateColumn, PrechargeActivate, ColumnColumn, ReadWrite, WriteRead, ReadPrecharge, WritePrecharge, FourActivates}
use Rattle.trace.specs.Board.{Told, board_told}
use Rattle.report.specs.Gaps.{gap_of}

-- the sheet's values of a board as it is told
abbrev values_of : Result Told Refused → List Cycles
values_of (Ok t) = t.values
values_of (Err why) = []

-- sheets with the same values ask for the same gaps
gaps_by : (s t : Sheet) (rule : Rule) → in_order s ≡ in_order t → gap_of s rule ≡ gap_of t rule
gaps_by s t CyclesRise e = refl
gaps_by s t InsideChip e = refl
gaps_by s t ActivateClosed e = refl
gaps_by s t PrechargeOpen e = refl
gaps_by s t ColumnOpen e = refl
gaps_by s t ActivateActivateSame e = cc
gaps_by s t ActivateActivateOther e = cc
gaps_by s t ActivatePrecharge e = cc
gaps_by s t ActivateColumn e = cc
gaps_by s t PrechargeActivate e = cc
gaps_by s t ColumnColumn e = cc
gaps_by s t ReadWrite e = cc
gaps_by s t WriteRead e = cc
gaps_by s t ReadPrecharge e = cc
gaps_by s t WritePrecharge e = cc
gaps_by s t FourActivates e = cc

pub same_gap : (a b : Board) (rule : Rule) → board_told (Ok a) ≡ board_told (Ok b) → gap_of a.sheet rule ≡ gap_of b.sheet rule
same_gap a b rule e = gaps_by a.sheet b.sheet rule (ap values_of e)
