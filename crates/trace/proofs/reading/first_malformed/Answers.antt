use Rattle.std.proofs.Common.{◌∙◌, rules, tests}
use Rattle.std.proofs.lemmas.Iterator.Search.{position_from_yields_List}
use Rattle.std.proofs.lemmas.Iterator.Adapters.{position_from-zero}
use Rattle.trace.specs.Text.{lines_of, malformed}
use Rattle.trace.proofs.TextLaws.{chunks_are_lines}
use Rattle.trace.proofs.reading.first_malformed.Goals as goal

pub returns : goal.returns
unfolding malformed
returns c =
    position_from_yields_List malformed _ _ c.position.result c.position.ensures.ran (chunks_are_lines c.args.text.now c.chunks.ensures.rest c.chunks.ensures.size) (λ line b q called. search (rules, tests))
    ∙ position_from-zero malformed (lines_of c.args.text.now)
