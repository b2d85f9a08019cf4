use Rattle.std.proofs.Common.{◌≡◌, ◌++◌, ◌^◌, ◌-◌, false, true, [], ◌∷◌, IfOk, string_bytes, codes, ap, ◌∙◌, rules}
use Rattle.std.specs.Fmt.{digits as shown_digits, padded_integral, format_spec}
use Rattle.std.proofs.lemmas.Result.{IfOk-weaker}
use Rattle.trace.specs.Digits.{digits}
use Rattle.report.specs.Judging.{people_text, JudgedAloud}
use Rattle.report.proofs.Digits.{sixteen_digits}
use Rattle.report.proofs.Named.{gap_named}
use Rattle.report.proofs.judging.told_text.Goals as goal

pub returns : goal.returns
returns c =
    let line = c.args.sheet_line.now in
    let text = c.args.text.now in
    let answer = c.judge_text-answer.result in
    let near = c.gap_told-near.result in
    let n = c.pack-packed.result in
    let words = people_text answer near in
    let written : IfOk c.format.result (λ t. string_bytes t ≡ words ++ (padded_integral (format_spec 32 0 4 16 (2 ^ 64 - 1)) false [] (shown_digits 16 true n) ++ codes "\n")) = search rules in
    IfOk-weaker c.format.result
    (λ t. string_bytes t ≡ words ++ (padded_integral (format_spec 32 0 4 16 (2 ^ 64 - 1)) false [] (shown_digits 16 true n) ++ codes "\n"))
    (λ t. JudgedAloud line text (string_bytes t))
    (λ t wrote. record {
      answer = answer;
      near = near;
      judged = c.judge_text-answer.ensures.judged;
      gap_told = c.gap_told-near.ensures;
      gap_named = gap_named line text answer near c.judge_text-answer.ensures.judged c.gap_told-near.ensures;
      is_told = wrote ∙ ap (λ ds. words ++ (ds ++ codes "\n")) (sixteen_digits n (search rules)) ∙ ap (λ m. words ++ (digits 16 m ++ 10 ∷ [])) c.pack-packed.ensures;
    })
    written
