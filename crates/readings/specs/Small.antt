-- The small board: a sheet of small counts, a chip of 8 banks, and both orders for two requesters with two places each.
use Rattle.std.specs.Prelude.{ℕ, true, false, List, [], ◌∷◌}
use Rattle.std.proofs.Common.{arith}
use Rattle.sheet.specs.Units.{picoseconds, cycles}
use Rattle.sheet.specs.declared.units.Cycles.{Cycles}
use Rattle.sheet.specs.declared.given.Timing.{Timing}
use Rattle.sheet.specs.declared.accepted.Sheet.{Sheet}
use Rattle.sheet.specs.declared.geometry.Chip.{Chip}
use Rattle.policy.specs.declared.entry.Request.{Request}
use Rattle.policy.specs.Meaning.{Meaning, first_come, turn_order}
use Rattle.policy.specs.Orders.{ordered}
use Rattle.machine.specs.Machine.{Machine, opened}

-- A timing given by its count, with no length.
abbrev pub counted : ℕ → Timing
counted n = record { length = picoseconds 0; least = cycles n }

-- The small sheet as it is given: tRCD, tRP, tRAS, tRC, tRRD, tFAW, tCCD, tRTP, tWR, tWTR, RL, WL and BURST.
abbrev pub small_timings : List Timing
small_timings =
    counted 3 ∷ counted 3 ∷ counted 8 ∷ counted 11 ∷ counted 2 ∷ counted 12 ∷ counted 4 ∷ counted 4 ∷ counted 5 ∷ counted 3 ∷ counted 5 ∷ counted 4 ∷ counted 4 ∷ []

-- Its values, in the same order.
abbrev pub small_values : List Cycles
small_values =
    cycles 3 ∷ cycles 3 ∷ cycles 8 ∷ cycles 11 ∷ cycles 2 ∷ cycles 12 ∷ cycles 4 ∷ cycles 4 ∷ cycles 5 ∷ cycles 3 ∷ cycles 5 ∷ cycles 4 ∷ cycles 4 ∷ []

-- The small sheet as it is accepted.
abbrev pub small_sheet : Sheet
small_sheet = record {
  rcd = cycles 3;
  rp = cycles 3;
  ras = cycles 8;
  rc = cycles 11;
  rrd = cycles 2;
  faw = cycles 12;
  ccd = cycles 4;
  rtp = cycles 4;
  wr = cycles 5;
  wtr = cycles 3;
  rl = cycles 5;
  wl = cycles 4;
  burst = cycles 4;
  rcd_in = (omega arith, omega arith);
  rp_in = (omega arith, omega arith);
  ras_in = (omega arith, omega arith);
  rc_in = (omega arith, omega arith);
  rrd_in = (omega arith, omega arith);
  faw_in = (omega arith, omega arith);
  ccd_in = (omega arith, omega arith);
  rtp_in = (omega arith, omega arith);
  wr_in = (omega arith, omega arith);
  wtr_in = (omega arith, omega arith);
  rl_in = (omega arith, omega arith);
  wl_in = (omega arith, omega arith);
  burst_in = (omega arith, omega arith);
  latencies = omega arith;
}

-- 8 banks of 1,024 rows and 64 columns.
abbrev pub small_chip : Chip
small_chip = record { banks = 8; rows = 1024; columns = 64; banks_in = (omega arith, omega arith); rows_in = (omega arith, omega arith); columns_in = (omega arith, omega arith) }

-- First come for two requesters with two places each, by the small sheet's span.
abbrev pub first_of_two : Meaning
first_of_two = ordered first_come false 2 2 36 8 0 []

-- Turn order for the same.
abbrev pub turns_of_two : Meaning
turns_of_two = ordered turn_order true 2 2 36 8 0 []

-- The machine as it opens under first come, with this last cycle.
abbrev pub first_board : ℕ → Machine
first_board last = opened small_sheet small_chip last first_of_two

-- The machine as it opens under turn order.
abbrev pub turn_board : ℕ → Machine
turn_board last = opened small_sheet small_chip last turns_of_two

-- A requester's read of bank 0, row 7, column 16.
abbrev pub read_by : ℕ → Request
read_by requester = record { requester = requester; kind = 3; bank = 0; row = 7; column = 16 }
