-- What making a sheet or a chip answers: the refusal by its number and place, or what is made.
use Rattle.std.specs.Prelude.{ℕ, Bool, cond, ◌&&◌, List, [], ◌∷◌, map, Some, None, Ok, Err, Option, Result, nat_lt, slice_index_or}
use Rattle.sheet.specs.Units.{cycles, within}
use Rattle.sheet.specs.First.{first_place}
use Rattle.sheet.specs.Given.{over_limit, value_at, value_outside}
use Rattle.sheet.specs.declared.units.Cycles.{Cycles}
use Rattle.sheet.specs.declared.given.Timing.{Timing}
use Rattle.sheet.specs.declared.accepted.Sheet.{Sheet}
use Rattle.sheet.specs.declared.geometry.Chip.{Chip}
use Rattle.sheet.specs.declared.making.SheetRefusal.{SheetRefusal}
use Rattle.sheet.specs.declared.making.SheetRefusal.TheVariants.{Period, Limit, Value, Latencies}
use Rattle.sheet.specs.declared.making.ChipRefusal.{ChipRefusal}
use Rattle.sheet.specs.declared.making.ChipRefusal.TheVariants.{Size}

-- a refusal as it is told: its number, and the place that it carries
pub record Refused : Type 0 where
  pub number : ℕ
  pub place : Option ℕ

abbrev pub sheet_number : SheetRefusal → ℕ
sheet_number Period = 1
sheet_number (Limit place) = 2
sheet_number (Value place) = 3
sheet_number Latencies = 4

abbrev pub sheet_place : SheetRefusal → Option ℕ
sheet_place Period = None
sheet_place (Limit place) = Some place
sheet_place (Value place) = Some place
sheet_place Latencies = None

-- the timings of an accepted sheet, in the order of a sheet
abbrev pub in_order : Sheet → List Cycles
in_order s =
    s.rcd ∷ s.rp ∷ s.ras ∷ s.rc ∷ s.rrd ∷ s.faw ∷ s.ccd ∷ s.rtp ∷ s.wr ∷ s.wtr ∷ s.rl ∷ s.wl ∷ s.burst ∷ []

-- an answer as it is told: the sheet's values, or the refusal
abbrev pub sheet_told : Result Sheet SheetRefusal → Result (List Cycles) Refused
sheet_told (Ok s) = Ok (in_order s)
sheet_told (Err e) = Err (record { number = sheet_number e; place = sheet_place e })

-- refused with this number at a place, if there is one; else what follows
abbrev pub unless_at : {X : Type 0} → ℕ → Option ℕ → Result X Refused → Result X Refused
unless_at number (Some place) rest = Err (record { number = number; place = Some place })
unless_at number None rest = rest

abbrev pub refused : {X : Type 0} → ℕ → Result X Refused
refused number = Err (record { number = number; place = None })

-- WL, at place 11, is over RL, at place 10
abbrev pub late : List Cycles → Bool
late values = nat_lt (slice_index_or values 10 (cycles 0)).0 (slice_index_or values 11 (cycles 0)).0

-- the values of the timings, refused where WL is over RL
abbrev pub valued_or_late : ℕ → List Timing → Result (List Cycles) Refused
valued_or_late period timings =
    cond (late (map (value_at period) timings)) (refused 4) (Ok (map (value_at period) timings))

-- the values of a sheet with this period, or the first reason against it
abbrev pub sheet_made : ℕ → List Timing → Result (List Cycles) Refused
sheet_made period timings =
    cond (within 1 100000 period)
    (unless_at 2 (first_place over_limit timings)
    (unless_at 3 (first_place (value_outside period) timings)
    (valued_or_late period timings)))
    (refused 1)

abbrev pub chip_number : ChipRefusal → ℕ
chip_number Size = 5

-- the sizes of a chip: banks, rows, columns
abbrev pub Sizes : Type 0
Sizes = ℕ × ℕ × ℕ

abbrev pub chip_told : Result Chip ChipRefusal → Result Sizes Refused
chip_told (Ok k) = Ok (k.banks, k.rows, k.columns)
chip_told (Err e) = refused (chip_number e)

abbrev pub chip_made : ℕ → ℕ → ℕ → Result Sizes Refused
chip_made banks rows columns =
    cond (within 1 16 banks && (within 1 65536 rows && within 1 1024 columns)) (Ok (banks, rows, columns)) (refused 5)
