-- The derived gaps, the three stretches of a service, and the span, in cycles.
use Rattle.std.specs.Prelude.{ℕ, ◌+◌, ◌-◌, max}
use Rattle.sheet.specs.declared.accepted.Sheet.{Sheet}
use Rattle.sheet.specs.declared.geometry.Chip.{Chip}

-- from a read to a write
abbrev pub read_to_write : Sheet → ℕ
read_to_write s = s.rl.0 + s.ccd.0 + 2 - s.wl.0

-- from a write to a read
abbrev pub write_to_read : Sheet → ℕ
write_to_read s = s.wl.0 + s.burst.0 + s.wtr.0

-- from a write to a precharge of its bank
abbrev pub write_to_precharge : Sheet → ℕ
write_to_precharge s = s.wl.0 + s.burst.0 + s.wr.0

-- stretch A: after the last command of all, until a precharge is lawful
abbrev pub to_precharge : Sheet → ℕ
to_precharge s = max (max s.ras.0 s.rtp.0) (write_to_precharge s)

-- stretch B: from there until an activate is lawful
abbrev pub to_activate : Sheet → ℕ
to_activate s = max (max (max s.rp.0 s.rc.0) s.rrd.0) s.faw.0

-- stretch C: from there until a column command is lawful
abbrev pub to_column : Sheet → ℕ
to_column s = max (max (max s.rcd.0 s.ccd.0) (read_to_write s)) (write_to_read s)

-- the longest time that one service takes
abbrev pub span : Sheet → Chip → ℕ
span s k = to_precharge s + to_activate s + to_column s
