use Rattle.std.proofs.Common.{arith}
use Rattle.trace.proofs.WriteLaws.{no_digits, digit_behind}
use Rattle.trace.proofs.writing.+write_digits.Goals as goal

pub returns-in-Some : goal.returns-in-Some
returns-in-Some m c = digit_behind _ _ _ _ _ (omega (arith, c.in-Some.ensures.cases)) c.write_digits.ensures c.digit_byte.ensures

pub returns-in_default : goal.returns-in_default
returns-in_default m c = no_digits c.args.out.now c.args.number c.in_default.ensures.cases
