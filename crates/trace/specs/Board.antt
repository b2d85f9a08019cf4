-- The sheet and the chip of a sheet line: what is made, or the refusal by its number and place.
use Rattle.std.specs.Prelude.{ℕ, List, ◌++◌, Some, None, Ok, Err, codes, decimal, Option, Result}
use Rattle.sheet.specs.declared.units.Cycles.{Cycles}
use Rattle.sheet.specs.declared.board.Board.{Board}
use Rattle.sheet.specs.Making.{Refused, refused, Sizes, sheet_number, sheet_place, chip_number, sheet_told, chip_told, sheet_made, chip_made}
use Rattle.trace.specs.SheetLine.{sheet_line_in}
use Rattle.trace.specs.declared.sheet_line.SheetLine.{SheetLine}
use Rattle.trace.specs.declared.board.BoardRefusal.{BoardRefusal}
use Rattle.trace.specs.declared.board.BoardRefusal.TheVariants.{Malformed, Sheet as OfSheet, Chip as OfChip}

abbrev pub board_number : BoardRefusal → ℕ
board_number Malformed = 20
board_number (OfSheet why) = sheet_number why
board_number (OfChip why) = chip_number why

abbrev pub board_place : BoardRefusal → Option ℕ
board_place Malformed = None
board_place (OfSheet why) = sheet_place why
board_place (OfChip why) = None

-- a refusal's number, and the place that it carries
abbrev pub refused_text : ℕ → Option ℕ → List ℕ
refused_text number None = codes "refused " ++ decimal number
refused_text number (Some place) = codes "refused " ++ (decimal number ++ (codes " at " ++ decimal place))

-- a refusal as it is shown
abbrev pub refusal_text : BoardRefusal → List ℕ
refusal_text why = refused_text (board_number why) (board_place why)

-- a board as it is told: the sheet's values in the order of a sheet, and the chip's sizes
pub record Told : Type 0 where
  pub values : List Cycles
  pub sizes : Sizes

-- both, or the first refusal
abbrev pub both : Result (List Cycles) Refused → Result Sizes Refused → Result Told Refused
both (Err why) sizes = Err why
both (Ok values) (Err why) = Err why
both (Ok values) (Ok sizes) = Ok (record { values = values; sizes = sizes })

-- an answer as it is told
abbrev pub board_told : Result Board BoardRefusal → Result Told Refused
board_told (Ok b) = both (sheet_told (Ok b.sheet)) (chip_told (Ok b.chip))
board_told (Err why) = Err (record { number = board_number why; place = board_place why })

abbrev pub board_of : Option SheetLine → Result Told Refused
board_of None = refused 20
board_of (Some f) = both (sheet_made f.period.0 f.timings) (chip_made f.banks f.rows f.columns)

-- what a line gives
abbrev pub board_made : List ℕ → Result Told Refused
board_made bs = board_of (sheet_line_in bs)
