-- The sizes of the small sheet: computed from its values.
use Rattle.std.proofs.Common.{◌≡◌, ℕ, ◌≤◌, max, true, cond, not, ◌&&◌, leb, List, map, get_or, Ok, refl, arith}
use mathlib.Core.Path.{PathP}
use mathlib.Core.HLevel.{is_prop→PathP, ×_prop}
use native.Mathlib.Bridge.{le_prop}
use Rattle.std.proofs.lemmas.Bool.{le-leb}
use Rattle.sheet.specs.Units.{cycles, within, rounded_up}
use Rattle.sheet.specs.First.{first_place}
use Rattle.sheet.specs.Given.{over_limit}
use Rattle.sheet.specs.Making.{sheet_made, in_order, unless_at, refused, late}
use Rattle.sheet.specs.declared.units.Cycles.{Cycles}
use Rattle.sheet.specs.declared.given.Timing.{Timing}
use Rattle.sheet.specs.declared.accepted.Sheet.{Sheet}
use Rattle.sheet.specs.declared.geometry.Chip.{Chip}
use Rattle.sheet.proofs.Rounding.{least}
use Rattle.readings.specs.Small.{small_timings, small_values, small_sheet, small_chip}
use Rattle.readings.specs.Sizes.{SmallSizes, RoundingUp}

-- no length takes no cycles
no_length : (period : ℕ) → 1 ≤ period → rounded_up 0 period ≡ 0
no_length period some = omega (arith, least 0 period (rounded_up 0 period) 0 some refl (omega arith))

-- the value of a count beside so many cycles for its length
abbrev beside : ℕ → Timing → Cycles
beside n t = cycles (max t.least.0 n)

made_of_counts : (period : ℕ) → 1 ≤ period → period ≤ 100000 → sheet_made period small_timings ≡ Ok small_values
made_of_counts period some most =
    let none = no_length period some in
    let low : leb 1 period ≡ true = le-leb 1 period some in
    let high : leb period 100000 ≡ true = le-leb period 100000 most in
    λ i. cond (low i && high i)
    (unless_at 2 (first_place over_limit small_timings)
    (unless_at 3 (first_place (λ (t : Timing). not (within 1 255 (beside (none i) t).0)) small_timings)
    (cond (late (map (beside (none i)) small_timings)) (refused 4) (Ok (map (beside (none i)) small_timings)))))
    (refused 1)

-- bounds are the same however they are shown
same_size : (high n m : ℕ) (e : n ≡ m) (u : (1 ≤ n) × (n ≤ high)) (v : (1 ≤ m) × (m ≤ high)) → PathP (λ i. (1 ≤ e i) × (e i ≤ high)) u v
same_size high n m e u v = is_prop→PathP (λ i. (1 ≤ e i) × (e i ≤ high)) (λ i. ×_prop le_prop le_prop) u v

-- a value by its place
abbrev at : List Cycles → ℕ → ℕ
at vs place = (get_or vs place (cycles 0)).0

no_other_sheet : (s : Sheet) → in_order s ≡ small_values → s ≡ small_sheet
no_other_sheet s e = λ i. record {
  rcd = cycles (at (e i) 0);
  rp = cycles (at (e i) 1);
  ras = cycles (at (e i) 2);
  rc = cycles (at (e i) 3);
  rrd = cycles (at (e i) 4);
  faw = cycles (at (e i) 5);
  ccd = cycles (at (e i) 6);
  rtp = cycles (at (e i) 7);
  wr = cycles (at (e i) 8);
  wtr = cycles (at (e i) 9);
  rl = cycles (at (e i) 10);
  wl = cycles (at (e i) 11);
  burst = cycles (at (e i) 12);
  rcd_in = same_size 255 s.rcd.0 small_sheet.rcd.0 (λ j. at (e j) 0) s.rcd_in small_sheet.rcd_in i;
  rp_in = same_size 255 s.rp.0 small_sheet.rp.0 (λ j. at (e j) 1) s.rp_in small_sheet.rp_in i;
  ras_in = same_size 255 s.ras.0 small_sheet.ras.0 (λ j. at (e j) 2) s.ras_in small_sheet.ras_in i;
  rc_in = same_size 255 s.rc.0 small_sheet.rc.0 (λ j. at (e j) 3) s.rc_in small_sheet.rc_in i;
  rrd_in = same_size 255 s.rrd.0 small_sheet.rrd.0 (λ j. at (e j) 4) s.rrd_in small_sheet.rrd_in i;
  faw_in = same_size 255 s.faw.0 small_sheet.faw.0 (λ j. at (e j) 5) s.faw_in small_sheet.faw_in i;
  ccd_in = same_size 255 s.ccd.0 small_sheet.ccd.0 (λ j. at (e j) 6) s.ccd_in small_sheet.ccd_in i;
  rtp_in = same_size 255 s.rtp.0 small_sheet.rtp.0 (λ j. at (e j) 7) s.rtp_in small_sheet.rtp_in i;
  wr_in = same_size 255 s.wr.0 small_sheet.wr.0 (λ j. at (e j) 8) s.wr_in small_sheet.wr_in i;
  wtr_in = same_size 255 s.wtr.0 small_sheet.wtr.0 (λ j. at (e j) 9) s.wtr_in small_sheet.wtr_in i;
  rl_in = same_size 255 s.rl.0 small_sheet.rl.0 (λ j. at (e j) 10) s.rl_in small_sheet.rl_in i;
  wl_in = same_size 255 s.wl.0 small_sheet.wl.0 (λ j. at (e j) 11) s.wl_in small_sheet.wl_in i;
  burst_in = same_size 255 s.burst.0 small_sheet.burst.0 (λ j. at (e j) 12) s.burst_in small_sheet.burst_in i;
  latencies = is_prop→PathP (λ j. at (e j) 11 ≤ at (e j) 10) (λ j. le_prop) s.latencies small_sheet.latencies i;
}

no_other_chip : (k : Chip) → k.banks ≡ 8 → k.rows ≡ 1024 → k.columns ≡ 64 → k ≡ small_chip
no_other_chip k banks rows columns = λ i. record {
  banks = banks i;
  rows = rows i;
  columns = columns i;
  banks_in = same_size 16 k.banks 8 banks k.banks_in small_chip.banks_in i;
  rows_in = same_size 65536 k.rows 1024 rows k.rows_in small_chip.rows_in i;
  columns_in = same_size 1024 k.columns 64 columns k.columns_in small_chip.columns_in i;
}

pub small_sizes : SmallSizes
small_sizes = record {
  made_of_counts = made_of_counts;
  accepted = refl;
  no_other_sheet = no_other_sheet;
  thirteen = refl;
  twelve = refl;
  eleven = refl;
  thirty_six = λ _. refl;
  chip_accepted = refl;
  no_other_chip = no_other_chip;
  first_come_made = refl;
  turn_order_made = refl;
}

pub rounding_up : RoundingUp
rounding_up = record { even = refl; one_more = refl }
