use Rattle.checker.proofs.Places.{small}
use Rattle.checker.proofs.judging.judge_text.Goals as goal

pub returns-clause-small : goal.returns-clause-small
returns-clause-small c = small c.args.sheet_line.now c.args.text.now c.judge_by_line.result c.judge_by_line.ensures
