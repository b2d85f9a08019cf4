use Rattle.std.proofs.Common.{◌≡◌, ◌+◌, ◌-◌, ◌*◌, take, drop, None, sym, ap, ◌∙◌, arith, length-set, rules}
use Rattle.std.proofs.lemmas.List.{drop-drop}
use Rattle.trace.specs.SheetLine.{timings_in}
use Rattle.trace.proofs.Timings.{fails, goes_on, ends}
use Rattle.trace.proofs.sheet_line.read_timings.Goals as goal

pub returns-in_err-read : goal.returns-in_err-read
returns-in_err-read c =
    let none : timings_in 13 c.args.line.now ≡ None =
    sym c.loop-timing.invariant.0 ∙ fails (take c.loop-timing.timing-index c.loop-timing.timing-items) (13 - c.loop-timing.timing-index) c.loop-timing.rest.now (omega arith) c.in_err-read.ensures in
    search rules

pub loop-timing-preserved : goal.loop-timing-preserved
loop-timing-preserved c =
    let k = c.loop-timing.timing-index in
    let read = c.in_ok-read.ensures in (
      goes_on c.loop-timing.timing-items k (13 - k) (13 - (k + 1)) c.loop-timing.rest.now c.in_ok-read.after.now c.in_ok-read.read (omega (arith, c.loop-timing.invariant)) (omega arith) read.0 read.1 ∙ c.loop-timing.invariant.0,
      read.1 ∙ ap (drop 8) c.loop-timing.invariant.1 ∙ drop-drop 8 (8 * k) c.args.line.now ∙ ap (λ n. drop n c.args.line.now) (omega arith),
      length-set c.loop-timing.timing-items k c.in_ok-read.read ∙ c.loop-timing.invariant.2,
    )

pub returns : goal.returns
returns c =
    let k : c.loop-timing.timing-index ≡ 13 = omega arith in (
      sym c.loop-timing.invariant.0 ∙ ends c.loop-timing.timing-items c.loop-timing.timing-index c.loop-timing.rest.now k c.loop-timing.invariant.2,
      c.loop-timing.invariant.1 ∙ ap (λ n. drop (8 * n) c.args.line.now) k,
    )
