use Rattle.std.proofs.Common.{◌≡◌, ℕ, take, Err, sym, refl, subst, rules}
use Rattle.rulebook.proofs.Obeying.{nothing_obeys}
use Rattle.trace.specs.Text.{lines_of}
use Rattle.trace.proofs.TextLaws.{before_lines, one_line}
use Rattle.checker.specs.Judging.{JudgedLines}
use Rattle.checker.proofs.LineSteps.{LinesSoFar, line_more, line_refused}
use Rattle.checker.proofs.texts.judge_lines.Goals as goal

pub loop-line-init : goal.loop-line-init
loop-line-init c = (
  before_lines c.args.text.now _ (search rules) (search rules) (search rules),
  subst (λ (k : ℕ). LinesSoFar c.args.board.now.sheet c.args.board.now.chip (take k (lines_of c.args.text.now)) c.new-book.result) {x = 0} (search rules) (record {
    summary = c.new-book.ensures.summary;
    lawful = record { stand_for = refl; obeys = nothing_obeys c.args.board.now.sheet c.args.board.now.chip };
  }),
)

pub returns-in_err-judge_line : goal.returns-in_err-judge_line
returns-in_err-judge_line c =
    let s = c.args.board.now.sheet in
    let k = c.args.board.now.chip in
    let text = c.args.text.now in
    let why = c.in_err-judge_line.field-0.0 in
    let told : c.from_residual.result ≡ Err why = search rules in
    let turn = one_line text _ c.next.new.self (c.in-Some.line, c.in-Some.bytes) c.loop-line.invariant.0 c.in-Some.ensures.steps in
    subst (JudgedLines s k text) (sym told) (line_refused s k text _ _ _ _ c.loop-line.book _ why turn c.loop-line.invariant.1 c.in_err-judge_line.ensures)

pub loop-line-preserved : goal.loop-line-preserved
loop-line-preserved c =
    let text = c.args.text.now in
    let turn = one_line text _ _ (c.in-Some.line, c.in-Some.bytes) c.loop-line.invariant.0 c.in-Some.ensures.steps in
    (turn.goes_on, line_more c.args.board.now.sheet c.args.board.now.chip text _ _ _ _ c.loop-line.book _ tt turn c.loop-line.invariant.1 c.in_ok-judge_line.ensures)
