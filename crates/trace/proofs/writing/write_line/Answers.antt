use Rattle.std.proofs.Common.{refl, ◌∙◌, arith}
use Rattle.trace.proofs.Parts.{start}
use Rattle.trace.proofs.WriteLaws.{field_more, line_ends}
use Rattle.trace.proofs.writing.write_line.Goals as goal

pub returns : goal.returns
returns c =
    let f1 = field_more 8 _ _ _ (omega arith) (start c.args.out.now) refl c.write_digits.ensures in
    let f2 = field_more 1 _ _ _ (omega arith) f1 (c.from.ensures ∙ c.number.ensures.value) c.write_digits-2.ensures in
    let f3 = field_more 1 _ _ _ (omega arith) f2 c.from-2.ensures c.write_digits-3.ensures in
    let f4 = field_more 4 _ _ _ (omega arith) f3 c.from-3.ensures c.write_digits-4.ensures in
    let f5 = field_more 3 _ _ _ (omega arith) f4 c.from-4.ensures c.write_digits-5.ensures in
    let f6 = field_more 1 _ _ _ (omega arith) f5 c.from-5.ensures c.write_digits-6.ensures in
    let f7 = field_more 8 _ _ _ (omega arith) f6 refl c.write_digits-7.ensures in
    line_ends 10 c.requires f7
