use Rattle.std.proofs.Common.{◌≡◌, Err, sym, subst, rules}
use Rattle.rulebook.proofs.Obeying.{nothing_obeys}
use Rattle.checker.specs.Judging.{Judged}
use Rattle.checker.proofs.Steps.{admitted_at, refused_at}
use Rattle.checker.proofs.records.judge_records.Goals as goal

pub loop-line-init : goal.loop-line-init
loop-line-init c = record {
  summary = c.new-book.ensures.summary;
  clean = record { all_proper = tt; obeys = nothing_obeys c.args.board.now.sheet c.args.board.now.chip };
}

pub returns-in_err-judge_record : goal.returns-in_err-judge_record
returns-in_err-judge_record c =
    let why = c.in_err-judge_record.field-0.0 in
    let told : c.from_residual.result ≡ Err why = search rules in
    subst (Judged c.args.board.now.sheet c.args.board.now.chip c.args.records.now) (sym told)
    (refused_at c.args.board.now.sheet c.args.board.now.chip c.args.records.now c.loop-line.line c.loop-line.book _ why c.loop-line-test.true c.loop-line.invariant c.in_err-judge_record.ensures)

pub loop-line-preserved : goal.loop-line-preserved
loop-line-preserved c =
    let j = c.in_ok-judge_record.ensures in
    admitted_at c.args.board.now.sheet c.args.board.now.chip c.args.records.now c.loop-line.line _ c.loop-line.book _ _ c.loop-line-test.true c.loop-line.invariant j.0 j.1
