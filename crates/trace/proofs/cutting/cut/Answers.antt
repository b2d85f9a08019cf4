use Rattle.std.proofs.Common.{◌*◌, length, drop, sym, ap, ◌∙◌, arith}
use Rattle.std.proofs.lemmas.List.{take_rest, take_all}
use Rattle.trace.proofs.cutting.cut.Goals as goal

pub returns-else-rest-gt-LINE : goal.returns-else-rest-gt-LINE
returns-else-rest-gt-LINE c =
    let rest = drop (27 * c.args.k) c.args.text.now in
    let e = take_rest c.args.text.now (27 * c.args.k) in
    e ∙ sym (take_all 27 rest (omega (arith, ap length e)))
