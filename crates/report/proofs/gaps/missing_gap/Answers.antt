use Rattle.std.proofs.Common.{Some, None, ap, ◌∙◌}
use Rattle.trace.specs.Line.{command_in}
use Rattle.report.proofs.Backwards.{missing_before}
use Rattle.report.proofs.gaps.missing_gap.Goals as goal

pub returns-in_err-earlier : goal.returns-in_err-earlier
returns-in_err-earlier c =
    c.from_residual-in_err-earlier.ensures
    ∙ missing_before c.args.sheet.now c.args.text.now c.args.line c.args.rule c.in_ok-needed.needed c.in_ok-later.later None
    c.in_ok-needed.ensures (c.in_ok-later.ensures ∙ ap command_in c.line_at.ensures.value) c.in_err-earlier.ensures

pub returns : goal.returns
returns c =
    c.pair_near.ensures
    ∙ missing_before c.args.sheet.now c.args.text.now c.args.line c.args.rule c.in_ok-needed.needed c.in_ok-later.later (Some c.in_ok-earlier.earlier)
    c.in_ok-needed.ensures (c.in_ok-later.ensures ∙ ap command_in c.line_at.ensures.value) c.in_ok-earlier.ensures
