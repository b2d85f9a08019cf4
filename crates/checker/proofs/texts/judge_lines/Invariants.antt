use Rattle.std.proofs.Common.{take}
use Rattle.std.specs.Iterator.Adapters.{enumerate_count}
use Rattle.trace.specs.Text.{lines_of}
use Rattle.trace.proofs.TextLaws.{AtLine}
use Rattle.checker.proofs.LineSteps.{LinesSoFar}
use Rattle.checker.proofs.texts.judge_lines.Given as goal

abbrev pub invariant-loop-line : goal.invariant-loop-line
invariant-loop-line l = AtLine l.text l.line-iterator × LinesSoFar l.board.sheet l.board.chip (take (enumerate_count l.line-iterator) (lines_of l.text)) l.book
