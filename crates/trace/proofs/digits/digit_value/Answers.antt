-- The table is `digit_value` at 0 to 255: antt computes both lists, and compares them.
use Rattle.std.proofs.Common.{arith}
use Rattle.std.proofs.lemmas.List.FromFn.{get_or-map-range_with_len}
use Rattle.trace.specs.Digits.{digit_value}
use Rattle.trace.proofs.digits.digit_value.Goals as goal

pub returns : goal.returns
unfolding digit_value
returns c = get_or-map-range_with_len digit_value 0 256 c.args.byte c.args.byte 0 (omega arith) (omega arith)
