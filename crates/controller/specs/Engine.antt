-- What the engine sends in a cycle, and what it is left with, as its record of the trace tells.
use Rattle.std.specs.Prelude.{ℕ, Bool, false, cond, not, ◌&&◌, Some, None, Ok, Err, Option, Result, ◌==◌}
use Rattle.sheet.specs.declared.accepted.Sheet.{Sheet}
use Rattle.sheet.specs.declared.geometry.Chip.{Chip}
use Rattle.rulebook.specs.declared.command.Command.{Command}
use Rattle.rulebook.specs.declared.rule.Rule.{Rule}
use Rattle.rulebook.specs.declared.book.Book.{Book}
use Rattle.rulebook.specs.Record.{open_row_of}
use Rattle.rulebook.specs.Answer.{answer_to, book_after}
use Rattle.policy.specs.declared.entry.Entry.{Entry}
use Rattle.machine.specs.Machine.{activate_for, precharge_for, column_for}
use Rattle.controller.specs.declared.stage.Stage.{Stage}
use Rattle.controller.specs.declared.stage.Stage.TheVariants.{Idle, Serving}
use Rattle.controller.specs.declared.stage.RowState.{RowState}
use Rattle.controller.specs.declared.stage.RowState.TheVariants.{Here, Other, Closed}
use Rattle.controller.specs.declared.engine.Engine.{Engine}

-- How an open row, if there is one, stands to the row that is wanted.
abbrev pub row_state : Option ℕ → ℕ → RowState
row_state None row = Closed
row_state (Some r) row = cond (r == row) Here Other

-- How the bank of what is in service stands to it; closed where nothing is.
abbrev pub state_of : Stage → Book → RowState
state_of Idle b = Closed
state_of (Serving v) b = row_state (open_row_of b v.entry.bank) v.entry.row

-- What an entry does next.
abbrev pub next_in : RowState → ℕ → Entry → Command
next_in Here clock e = column_for clock e
next_in Other clock e = precharge_for clock e
next_in Closed clock e = activate_for clock e

-- A column command that has to wait for its deadline.
abbrev pub held_back : RowState → Bool → ℕ → Entry → Bool
held_back Here holds clock e = holds && not (clock == e.deadline)
held_back Other holds clock e = false
held_back Closed holds clock e = false

-- A command goes out where it breaks no rule.
abbrev pub if_lawful : Result Unit Rule → Command → Option Command
if_lawful (Ok u) c = Some c
if_lawful (Err r) c = None

-- The stage once a command went out, or none did: a column command ends the service.
abbrev pub stage_with : RowState → Option Command → Stage → Stage
stage_with Here None g = g
stage_with Here (Some c) g = Idle
stage_with Other o g = g
stage_with Closed o g = g

-- The command that goes out for an entry whose bank is in this state.
abbrev pub sent_for : RowState → Sheet → Chip → Bool → ℕ → Book → Entry → Option Command
sent_for row s k holds clock b e = cond (held_back row holds clock e) None (if_lawful (answer_to s k b (next_in row clock e)) (next_in row clock e))

-- The record after it.
abbrev pub book_for : RowState → Sheet → Chip → Bool → ℕ → Book → Entry → Book
book_for row s k holds clock b e = cond (held_back row holds clock e) b (book_after s k b (next_in row clock e))

-- The command of a cycle.
abbrev pub sent_in : Stage → RowState → Sheet → Chip → Bool → ℕ → Book → Option Command
sent_in Idle row s k holds clock b = None
sent_in (Serving v) row s k holds clock b = sent_for row s k holds clock b v.entry

-- The record after that cycle.
abbrev pub book_in : Stage → RowState → Sheet → Chip → Bool → ℕ → Book → Book
book_in Idle row s k holds clock b = b
book_in (Serving v) row s k holds clock b = book_for row s k holds clock b v.entry

-- The stage after that cycle.
abbrev pub stage_in : Stage → RowState → Option Command → Stage
stage_in Idle row o = Idle
stage_in (Serving v) row o = stage_with row o (Serving v)

-- The command of a cycle, of an engine.
abbrev pub sent : Sheet → Chip → Bool → ℕ → Engine → Option Command
sent s k holds clock g = sent_in g.stage (state_of g.stage g.book) s k holds clock g.book

-- The engine after that cycle.
abbrev pub engine_after : Sheet → Chip → Bool → ℕ → Engine → Engine
engine_after s k holds clock g = record {
  stage = stage_in g.stage (state_of g.stage g.book) (sent s k holds clock g);
  book = book_in g.stage (state_of g.stage g.book) s k holds clock g.book;
}
