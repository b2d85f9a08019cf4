use Rattle.trace.proofs.TextLaws.{lines_correspond}
use Rattle.trace.proofs.cutting.lines_correspond.Goals as goal

pub returns : goal.returns
returns c = lines_correspond
