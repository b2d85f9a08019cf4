-- One line more.
use Rattle.std.proofs.Common.{◌≡◌, ℕ, ◌+◌, ◌<◌, List, [], ◌∷◌, ◌++◌, map, length, get_or, take, Some, Ok, Err, sym, ap, ◌∙◌, subst, arith}
use Rattle.std.specs.declared.iter.Enumerate.{Enumerate}
use Rattle.std.specs.declared.slice.Chunks.{Chunks}
use Rattle.std.specs.Iterator.Adapters.{enumerate_count}
use Rattle.std.proofs.lemmas.List.{map_more, map-append}
use Rattle.sheet.specs.declared.accepted.Sheet.{Sheet}
use Rattle.sheet.specs.declared.geometry.Chip.{Chip}
use Rattle.rulebook.specs.Book.{Obeys}
use Rattle.rulebook.specs.Summary.{Summarises}
use Rattle.rulebook.specs.declared.command.Command.{Command}
use Rattle.rulebook.specs.declared.book.Book.{Book}
use Rattle.trace.specs.Line.{command_in}
use Rattle.trace.specs.Text.{lines_of, command_at}
use Rattle.trace.proofs.TextLaws.{OneLine, length_lines}
use Rattle.trace.proofs.ReadLaws.{known_command}
use Rattle.checker.specs.Judging.{LawfulLines, JudgedLine, JudgedLines}
use Rattle.checker.specs.declared.refusals.TextRefusal.{TextRefusal}
use Rattle.checker.specs.declared.refusals.TextRefusal.TheVariants.{TooLong, Board, Malformed, Broken}
use Rattle.checker.proofs.Exact.{malformed_fails, line_fails}
use Rattle.checker.proofs.Steps.{refused_by}

-- the lines so far stand for commands that obey, and the book summarises them
pub record LinesSoFar (s : Sheet) (k : Chip) (lines : List (List ℕ)) (b : Book) : Type 0 where
  pub summary : Summarises (map command_at lines) b
  pub lawful : LawfulLines s k lines (map command_at lines)

-- the lines so far of a turn of the loop, counted by its number
so_far : (s : Sheet) (k : Chip) (text bs : List ℕ) (i t : Enumerate (Chunks ℕ)) (n : ℕ) (b : Book) → OneLine text i n bs t → LinesSoFar s k (take (enumerate_count i) (lines_of text)) b → LinesSoFar s k (take n (lines_of text)) b
so_far s k text bs i t n b turn f = subst (λ (m : ℕ). LinesSoFar s k (take m (lines_of text)) b) (sym turn.numbered) f

-- a turn whose line is taken in
pub line_more : (s : Sheet) (k : Chip) (text bs : List ℕ) (i t : Enumerate (Chunks ℕ)) (n : ℕ) (b new : Book) (u : Unit {0}) → OneLine text i n bs t → LinesSoFar s k (take (enumerate_count i) (lines_of text)) b →
    JudgedLine s k b n bs (Ok u) new → LinesSoFar s k (take (enumerate_count t) (lines_of text)) new
line_more s k text bs i t n b new u turn f j =
    let lines = lines_of text in
    let h0 = map command_at (take n lines) in
    let within : n < length (lines_of text) = omega (arith, turn.below, length_lines text) in
    let was = so_far s k text bs i t n b turn f in
    let c = j.0 in
    let stands = ap command_in (sym turn.is) ∙ j.1 in
    let a = j.2 h0 was.summary was.lawful.obeys in
    let commands : map command_at (take (n + 1) lines) ≡ h0 ++ c ∷ [] =
    map_more command_at lines n [] within ∙ ap (λ d. h0 ++ d ∷ []) (known_command (get_or lines n []) c stands) in
    subst (λ (m : ℕ). LinesSoFar s k (take m lines) new) (sym turn.next) (record {
      summary = subst (λ (h : List Command). Summarises h new) (sym commands) a.1;
      lawful = record {
        stand_for =
            map_more command_in lines n [] within
            ∙ (λ m. was.lawful.stand_for m ++ stands m ∷ [])
            ∙ sym (map-append Some h0 (c ∷ []))
            ∙ ap (map Some) (sym commands);
        obeys = subst (λ (h : List Command). Obeys s k h) (sym commands) a.0;
      };
    })

-- a turn whose line is refused
pub line_refused : (s : Sheet) (k : Chip) (text bs : List ℕ) (i t : Enumerate (Chunks ℕ)) (n : ℕ) (b new : Book) (why : TextRefusal) → OneLine text i n bs t → LinesSoFar s k (take (enumerate_count i) (lines_of text)) b →
    JudgedLine s k b n bs (Err why) new → JudgedLines s k text (Err why)
line_refused s k text bs i t n b new TooLong turn f j = absurd j
line_refused s k text bs i t n b new (Board why) turn f j = absurd j
line_refused s k text bs i t n b new (Malformed at) turn f j =
    let lines = lines_of text in
    let within : n < length (lines_of text) = omega (arith, turn.below, length_lines text) in
    let was = so_far s k text bs i t n b turn f in
    let fails = malformed_fails s k lines n within (ap command_in (sym turn.is) ∙ j.1) in
    subst (λ (l : ℕ). JudgedLines s k text (Err (Malformed l))) (sym j.0) (fails, turn.below, (map command_at (take n lines), was.lawful), ap command_in (sym turn.known) ∙ j.1)
line_refused s k text bs i t n b new (Broken at rule) turn f j =
    let lines = lines_of text in
    let within : n < length (lines_of text) = omega (arith, turn.below, length_lines text) in
    let was = so_far s k text bs i t n b turn f in
    let cs = map command_at (take n lines) in
    let c = j.1.0 in
    let breaks = refused_by s k cs b new c rule was.summary was.lawful.obeys j.1.2 in
    let fails = line_fails s k lines n cs c rule within was.lawful.stand_for (ap command_in (sym turn.is) ∙ j.1.1) breaks in
    subst (λ (l : ℕ). JudgedLines s k text (Err (Broken l rule))) (sym j.0) (fails, turn.below, (cs, was.lawful, (c, ap command_in (sym turn.known) ∙ j.1.1, breaks)))
