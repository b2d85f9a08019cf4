use Rattle.std.proofs.Common.{List, ℕ, drop, IfOk, string_bytes, subst, rules}
use Rattle.report.specs.Judging.{JudgedAloud}
use Rattle.report.proofs.Cut.{parts_or}
use Rattle.report.proofs.judging.judging_text.Goals as goal

pub returns : goal.returns
returns c =
    let input = c.args.input.now in
    let cut = c.unwrap_or.result in
    let parts = parts_or 120 input c.split_at_checked.result _ cut c.split_at_checked.ensures.cases c.unwrap_or.ensures (search rules) (search rules) in
    let by_text = subst (λ (x : List ℕ). IfOk c.told_text.result (λ t. JudgedAloud cut.0.now x (string_bytes t))) parts.1 c.told_text.ensures in
    subst (λ (x : List ℕ). IfOk c.told_text.result (λ t. JudgedAloud x (drop 120 input) (string_bytes t))) parts.0 by_text
