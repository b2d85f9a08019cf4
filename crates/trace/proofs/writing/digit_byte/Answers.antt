-- The table is `digit` at 0 to 15: antt computes both lists, and compares them.
use Rattle.std.proofs.Common.{arith}
use Rattle.std.proofs.lemmas.List.FromFn.{get_or-map-range_with_len}
use Rattle.trace.specs.Digits.{digit}
use Rattle.trace.proofs.writing.digit_byte.Goals as goal

pub returns : goal.returns
unfolding digit
returns c = get_or-map-range_with_len digit 0 16 c.args.value c.args.value 0 (omega arith) (omega arith)
