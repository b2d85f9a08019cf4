use Rattle.std.proofs.Common.{◌∙◌, sym, ap, rules, tests}
use Rattle.std.specs.Iterator.Adapters.{rev_source, filter_map_source}
use Rattle.std.specs.Slice.Iter.{chunks_rest, chunks_size}
use Rattle.std.proofs.lemmas.Iterator.Adapters.{option_map_id}
use Rattle.std.proofs.lemmas.Iterator.Consumers.{nth_from_yields_List, YieldsList-from_filter_map}
use Rattle.trace.specs.Text.{line_count}
use Rattle.report.specs.Gaps.{counts_from, such_in, latest_such}
use Rattle.report.proofs.Backwards.{chunks_back, nth_back}
use Rattle.report.proofs.gaps.counted_from.Goals as goal

pub returns : goal.returns
returns c =
    let such = counts_from c.args.rule c.args.later in
    let before = c.args.before.now in
    let source = ap rev_source c.filter_map.ensures.source ∙ c.rev.ensures.source in
    sym (option_map_id c.nth.result)
    ∙ nth_from_yields_List c.nth.result _ c.passed_over.result c.nth.ensures.ran
    (YieldsList-from_filter_map {s = c.filter_map.result} _ (such_in such) (chunks_back {s = filter_map_source c.filter_map.result} before (ap chunks_rest source ∙ c.chunks.ensures.rest) (ap chunks_size source ∙ c.chunks.ensures.size)) c.filter_map.ensures.closure (λ line r q called. search (rules, tests)))
    ∙ nth_back such c.passed_over.result before (line_count before)
    ∙ ap (λ over. latest_such such over before (line_count before)) c.passed_over.ensures
