-- The text that `sizing` prints for a sheet line.
use Rattle.std.specs.Prelude.{◌≡◌, ℕ, List, ◌++◌, Ok, Err, codes, decimal, Result}
use Rattle.sheet.specs.Spans.{to_precharge, to_activate, to_column, span}
use Rattle.sheet.specs.declared.accepted.Sheet.{Sheet}
use Rattle.sheet.specs.declared.board.Board.{Board}
use Rattle.sheet.specs.declared.geometry.Chip.{Chip}
use Rattle.trace.specs.Board.{refusal_text, board_told, board_made}
use Rattle.trace.specs.declared.board.BoardRefusal.{BoardRefusal}

-- one line a timing in the order of a sheet
abbrev pub timings_text : Sheet → List ℕ
timings_text s =
    codes "tRCD " ++ (decimal s.rcd.0
    ++ (codes "\ntRP " ++ (decimal s.rp.0
    ++ (codes "\ntRAS " ++ (decimal s.ras.0
    ++ (codes "\ntRC " ++ (decimal s.rc.0
    ++ (codes "\ntRRD " ++ (decimal s.rrd.0
    ++ (codes "\ntFAW " ++ (decimal s.faw.0
    ++ (codes "\ntCCD " ++ (decimal s.ccd.0
    ++ (codes "\ntRTP " ++ (decimal s.rtp.0
    ++ (codes "\ntWR " ++ (decimal s.wr.0
    ++ (codes "\ntWTR " ++ (decimal s.wtr.0
    ++ (codes "\nRL " ++ (decimal s.rl.0
    ++ (codes "\nWL " ++ (decimal s.wl.0
    ++ (codes "\nBURST " ++ (decimal s.burst.0
    ++ codes "\n")))))))))))))))))))))))))

-- the stretches and the span
abbrev pub stretches_text : Sheet → Chip → List ℕ
stretches_text s k =
    codes "A " ++ (decimal (to_precharge s)
    ++ (codes "\nB " ++ (decimal (to_activate s)
    ++ (codes "\nC " ++ (decimal (to_column s)
    ++ (codes "\nspan " ++ (decimal (span s k)
    ++ codes "\n")))))))

-- the timings, then the stretches and the span
abbrev pub board_text : Sheet → Chip → List ℕ
board_text s k = timings_text s ++ stretches_text s k

-- the text for an answer to a sheet line
abbrev pub answer_text : Result Board BoardRefusal → List ℕ
answer_text (Ok b) = board_text b.sheet b.chip
answer_text (Err why) = refusal_text why ++ codes "\n"

-- the text is that of the sheet and the chip that the line gives, or of the refusal that is due
abbrev pub SizedUp : List ℕ → List ℕ → Type 0
SizedUp line text = (answer : Result Board BoardRefusal) × (board_told answer ≡ board_made line) × (text ≡ answer_text answer)
