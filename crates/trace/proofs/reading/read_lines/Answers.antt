use Rattle.trace.proofs.ReadLaws.{read_only_so, reads_back}
use Rattle.trace.proofs.reading.read_lines.Goals as goal

pub returns-clause-only_so : goal.returns-clause-only_so
returns-clause-only_so c = read_only_so c.args.text.now c.read_checked.result c.args.records.now _ c.read_checked.ensures.answer c.read_checked.ensures.contents

pub returns-clause-reads_back : goal.returns-clause-reads_back
returns-clause-reads_back c = reads_back c.args.text.now c.read_checked.result c.args.records.now _ c.read_checked.ensures.answer c.read_checked.ensures.contents
