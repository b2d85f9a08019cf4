use Rattle.std.proofs.Common.{arith}
use Rattle.trace.proofs.WriteLaws.{line_more}
use Rattle.trace.proofs.writing.fill_lines.Goals as goal

pub loop-k-preserved : goal.loop-k-preserved
loop-k-preserved c =
    line_more c.args.commands.now c.loop-k.k _ c.args.out.now c.loop-k.out c.write_line.new.out _ c.loop-k-test.true (omega arith) c.loop-k.invariant c.write_line.ensures
