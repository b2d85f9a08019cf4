-- The sheet line: its fields from the left.
use Rattle.std.specs.Prelude.{◌≡◌, ℕ, zero, suc, ◌^◌, ◌<◌, cond, List, [], ◌∷◌, ◌++◌, length, drop, IfSome, Some, None, Option}
use Rattle.sheet.specs.Units.{picoseconds, cycles}
use Rattle.sheet.specs.declared.given.Timing.{Timing}
use Rattle.trace.specs.Digits.{digits}
use Rattle.trace.specs.Fields.{and_then, with_field, is_feed}
use Rattle.trace.specs.declared.sheet_line.SheetLine.{SheetLine}
use Rattle.trace.specs.declared.sheet_line.Sizes.{Sizes}

-- one timing: length 6, least count 2
abbrev pub timing_in : List ℕ → Option Timing
timing_in bs =
    with_field 6 bs (λ length r1.
    with_field 2 r1 (λ least r2.
    Some (record { length = picoseconds length; least = cycles least })))

-- so many timings, one behind the other
unfoldable pub timings_in : ℕ → List ℕ → Option (List Timing)
timings_in zero bs = Some []
timings_in (suc n) bs = and_then (timing_in bs) (λ t. and_then (timings_in n (drop 8 bs)) (λ ts. Some (t ∷ ts)))

-- the chip's sizes: banks 2, rows 5, columns 3; then a line feed, and nothing behind it
abbrev pub sizes_in : List ℕ → Option Sizes
sizes_in bs =
    with_field 2 bs (λ banks r1.
    with_field 5 r1 (λ rows r2.
    with_field 3 r2 (λ columns r3.
    cond (is_feed r3) (Some (record { banks = banks; rows = rows; columns = columns })) None)))

-- the whole line: period 5, thirteen timings, the chip's sizes
abbrev pub sheet_line_in : List ℕ → Option SheetLine
sheet_line_in bs =
    with_field 5 bs (λ period r1.
    and_then (timings_in 13 r1) (λ timings.
    and_then (sizes_in (drop 104 r1)) (λ sizes.
    Some (record { period = picoseconds period; timings = timings; banks = sizes.banks; rows = sizes.rows; columns = sizes.columns }))))

-- the text of one timing: length 6, least count 2
abbrev pub timing_text : Timing → List ℕ
timing_text t = digits 6 t.length.0 ++ digits 2 t.least.0

-- the text of timings, one behind the other
abbrev pub timings_text : List Timing → List ℕ
timings_text [] = []
timings_text (t ∷ ts) = timing_text t ++ timings_text ts

-- the text of a sheet line: period 5, the timings, banks 2, rows 5, columns 3, and a line feed
abbrev pub sheet_text : SheetLine → List ℕ
sheet_text f =
    digits 5 f.period.0 ++ (timings_text f.timings ++ (digits 2 f.banks ++ (digits 5 f.rows ++ (digits 3 f.columns ++ 10 ∷ []))))

-- each timing fits its digits
abbrev pub TimingsFit : List Timing → Type 0
TimingsFit [] = Unit {0}
TimingsFit (t ∷ ts) = (t.length.0 < 16 ^ 6) × (t.least.0 < 16 ^ 2) × TimingsFit ts

-- fields that a sheet line can have: thirteen timings, and every number fits its digits
pub record SheetFits (f : SheetLine) : Type 0 where
  pub thirteen : length f.timings ≡ 13
  pub period_fits : f.period.0 < 16 ^ 5
  pub timings_fit : TimingsFit f.timings
  pub banks_fit : f.banks < 16 ^ 2
  pub rows_fit : f.rows < 16 ^ 5
  pub columns_fit : f.columns < 16 ^ 3

-- bytes are the text of these fields
pub record TextOfSheet (f : SheetLine) (bs : List ℕ) : Type 0 where
  pub fits : SheetFits f
  pub bytes : bs ≡ sheet_text f

-- a line that is read is the text of the fields read
abbrev pub SheetOnlySo : List ℕ → Option SheetLine → Type 0
SheetOnlySo bs r = IfSome r (λ f. TextOfSheet f bs)

-- the text of fields that fit is read back as they
abbrev pub SheetReadsBack : List ℕ → Option SheetLine → Type 0
SheetReadsBack bs r = (f : SheetLine) → TextOfSheet f bs → r ≡ Some f
