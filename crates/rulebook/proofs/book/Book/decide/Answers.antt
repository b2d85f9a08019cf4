use Rattle.std.proofs.Common.{sym, ◌∙◌}
use Rattle.rulebook.specs.Record.{book_with}
use Rattle.rulebook.specs.Answer.{broken_rule}
use Rattle.rulebook.proofs.Answered.{refused_keeps, taken_in}
use Rattle.rulebook.proofs.book.Book.decide.Goals as goal

pub returns-in_err-check-clause-book : goal.returns-in_err-check-clause-book
returns-in_err-check-clause-book c =
    refused_keeps (broken_rule c.args.board.now.sheet c.args.board.now.chip c.args.self.now c.args.command) _ c.args.self.now (book_with c.args.self.now c.args.command) (sym c.check.ensures.answer ∙ c.in_err-check.was)

pub returns-clause-book : goal.returns-clause-book
returns-clause-book c =
    c.take_in.ensures
    ∙ taken_in (broken_rule c.args.board.now.sheet c.args.board.now.chip c.args.self.now c.args.command) _ c.args.self.now (book_with c.args.self.now c.args.command) (sym c.check.ensures.answer ∙ c.in_ok-check.was)
