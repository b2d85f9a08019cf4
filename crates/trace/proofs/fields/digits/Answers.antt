use Rattle.std.proofs.Common.{drop, Some, refl, ap, ◌∙◌, arith}
use Rattle.std.proofs.lemmas.List.{take_rest, drop-drop}
use Rattle.trace.proofs.Values.{grows, fits, begins, goes_on, digit_small, shorter}
use Rattle.trace.proofs.fields.digits.Goals as goal

pub loop-place-init : goal.loop-place-init
loop-place-init g c = (begins g.row.WIDTH c.args.line.now, refl, omega arith)

pub overflow_mul-number : goal.overflow_mul-number
overflow_mul-number g c = omega (arith, fits c.loop-place.number c.loop-place._place 0 c.loop-place.invariant.2 (omega arith) (omega arith))

pub overflow_add-number : goal.overflow_add-number
overflow_add-number g c =
    let d = c.from.result in
    let small = digit_small _ c.in_ok-digit.digit c.in_ok-digit.ensures.value in
    omega (arith, fits c.loop-place.number c.loop-place._place c.from.result c.loop-place.invariant.2 (omega arith) (omega (arith, small, c.from.ensures)))

pub loop-place-preserved : goal.loop-place-preserved
loop-place-preserved g c =
    let k = c.loop-place._place in
    let line = c.args.line.now in
    let after = take_rest c.loop-place.rest.now 1 in
    let small = digit_small _ c.in_ok-digit.digit c.in_ok-digit.ensures.value in (
      goes_on g.row.WIDTH k c.loop-place.number c.from.result c.loop-place.rest.now _ c.loop-place-test.true c.in-len1-up.len_at_least after (ap Some c.from.ensures ∙ c.in_ok-digit.ensures.value) ∙ c.loop-place.invariant.0,
      after ∙ ap (drop 1) c.loop-place.invariant.1 ∙ drop-drop 1 k line ∙ ap (λ n. drop n line) (omega arith),
      grows c.loop-place.number k c.from.result c.loop-place.invariant.2 (omega (arith, small, c.from.ensures)),
    )

pub returns-then-line : goal.returns-then-line
returns-then-line g c = shorter g.row.WIDTH c.args.line.now c.if-line.true
