use Rattle.rulebook.proofs.Judged.{judged}
use Rattle.rulebook.proofs.book.Book.admit.Goals as goal

pub returns-clause-judges : goal.returns-clause-judges
returns-clause-judges c = judged c.args.board.now.sheet c.args.board.now.chip c.args.self.now c.args.command _ _ c.decide.ensures.answer c.decide.ensures.book
