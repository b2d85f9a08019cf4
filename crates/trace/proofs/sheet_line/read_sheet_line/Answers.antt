use Rattle.std.proofs.Common.{◌∙◌}
use Rattle.trace.proofs.SheetLaws.{sheet_only_so, sheet_reads_back}
use Rattle.trace.proofs.sheet_line.read_sheet_line.Goals as goal

pub returns-clause-only_so : goal.returns-clause-only_so
returns-clause-only_so c = sheet_only_so c.args.line.now c.read_fields.result c.read_fields.ensures

pub returns-clause-reads_back : goal.returns-clause-reads_back
returns-clause-reads_back c = λ f t. c.read_fields.ensures ∙ sheet_reads_back c.args.line.now f t
