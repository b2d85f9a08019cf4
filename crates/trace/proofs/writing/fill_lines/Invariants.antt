use Rattle.std.proofs.Common.{◌≡◌, ◌*◌, ◌++◌, take, drop}
use Rattle.trace.specs.Text.{written}
use Rattle.trace.proofs.writing.fill_lines.Given as goal

abbrev pub invariant-loop-k : goal.invariant-loop-k
invariant-loop-k l = l.out ≡ written (take l.k l.commands) ++ drop (27 * l.k) l.initial.out
