-- The record after an answer: as it was at a refusal, with the command where it is taken.
use Rattle.std.proofs.Common.{◌≡◌, Some, None, Ok, Err, Option, refl}
use Rattle.rulebook.specs.declared.rule.Rule.{Rule}
use Rattle.rulebook.specs.declared.book.Book.{Book}
use Rattle.rulebook.specs.Answer.{answer_by, book_by}

pub refused_keeps : (o : Option Rule) (r : Rule) (old new : Book) → answer_by o ≡ Err r → old ≡ book_by o old new
refused_keeps None r old new e = cc
refused_keeps (Some q) r old new e = refl

pub taken_in : (o : Option Rule) (u : Unit) (old new : Book) → answer_by o ≡ Ok u → new ≡ book_by o old new
taken_in None u old new e = refl
taken_in (Some q) u old new e = cc
