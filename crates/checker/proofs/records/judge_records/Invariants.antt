use Rattle.std.proofs.Common.{take}
use Rattle.checker.proofs.Steps.{SoFar}
use Rattle.checker.proofs.records.judge_records.Given as goal

abbrev pub invariant-loop-line : goal.invariant-loop-line
invariant-loop-line l = SoFar l.board.sheet l.board.chip (take l.line l.records) l.book
