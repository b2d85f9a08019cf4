use Rattle.std.proofs.Common.{◌≡◌, ◌-◌, ◌*◌, length, take, drop}
use Rattle.trace.specs.SheetLine.{timings_in}
use Rattle.trace.proofs.Timings.{behind}
use Rattle.trace.proofs.sheet_line.read_timings.Given as goal

abbrev pub invariant-loop-timing : goal.invariant-loop-timing
invariant-loop-timing l =
    (behind (take l.timing-index l.timing-items) (timings_in (13 - l.timing-index) l.rest) ≡ timings_in 13 l.line)
    × (l.rest ≡ drop (8 * l.timing-index) l.line)
    × (length l.timing-items ≡ 13)
