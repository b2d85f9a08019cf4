use Rattle.std.proofs.Common.{◌++◌, [], map, take, drop, sym, ap, ◌∙◌, arith}
use Rattle.std.proofs.lemmas.List.{take_all}
use Rattle.trace.specs.Text.{line_count, lines_of, command_at}
use Rattle.trace.proofs.Filling.{fills_more}
use Rattle.trace.proofs.TextLaws.{one_line, after_lines, length_lines}
use Rattle.trace.proofs.reading.fill_records.Goals as goal

pub loop-k-preserved : goal.loop-k-preserved
loop-k-preserved c =
    let text = c.args.text.now in
    let lines = lines_of c.args.text.now in
    let old = c.args.records.now in
    let k = c.in-Some.k in
    let turn = one_line text _ _ (c.in-Some.k, c.in-Some.line) c.loop-k.invariant.0 c.in-Some.ensures.steps in
    let so_far = c.loop-k.invariant.1 ∙ ap (λ j. map command_at (take j lines) ++ drop j old) (sym turn.numbered) in (
      turn.goes_on,
      fills_more command_at lines old c.loop-k.records k [] c.command_at.result (omega (arith, turn.below, length_lines text)) (omega (arith, turn.below, c.requires)) so_far (c.command_at.ensures ∙ ap command_at turn.is)
          ∙ ap (λ j. map command_at (take j lines) ++ drop j old) (sym turn.next),
    )

pub returns : goal.returns
returns c =
    let text = c.args.text.now in
    let lines = lines_of c.args.text.now in
    let old = c.args.records.now in
    let all = after_lines text _ _ c.loop-k.invariant.0 c.in-None.ensures.steps in
    c.loop-k.invariant.1
    ∙ ap (λ j. map command_at (take j lines) ++ drop j old) all
    ∙ ap (λ t. map command_at t ++ drop (line_count text) old) (take_all (line_count text) lines (omega (arith, length_lines text)))
