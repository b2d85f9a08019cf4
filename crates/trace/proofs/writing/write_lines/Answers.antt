use Rattle.trace.proofs.WriteLaws.{written_so}
use Rattle.trace.proofs.writing.write_lines.Goals as goal

pub returns-clause-text : goal.returns-clause-text
returns-clause-text c = written_so c.args.commands.now c.write_checked.result c.args.out.now _ c.write_checked.ensures.answer c.write_checked.ensures.contents
