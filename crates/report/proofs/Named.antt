-- At a line that breaks a gap rule there is always an earlier command from which the gap had not passed.
use Rattle.std.proofs.Common.{◌≡◌, ℕ, ◌+◌, ◌<◌, ◌≤◌, Bool, true, false, ltb, List, [], map, reverse, length, get_or, take, Some, None, Ok, Err, MatchBool, Option, Result, sym, refl, ap, ◌∙◌, subst, arith}
use Rattle.std.proofs.lemmas.List.{take_all, get_or-map, get_or-take, length-map, length-take-le}
use Rattle.std.proofs.lemmas.Bool.{ltb-true, lt-ltb, cond-true}
use Rattle.sheet.specs.Spans.{read_to_write, write_to_read, write_to_precharge}
use Rattle.sheet.specs.Units.{cycles}
use Rattle.sheet.specs.declared.accepted.Sheet.{Sheet}
use Rattle.sheet.specs.declared.board.Board.{Board}
use Rattle.sheet.specs.declared.geometry.Chip.{Chip}
use Rattle.sheet.specs.declared.units.Cycles.{Cycles}
use Rattle.rulebook.specs.Answer.{too_soon}
use Rattle.rulebook.specs.Book.{Every, activates, Holds, Obeys}
use Rattle.rulebook.specs.Summary.{Latest, cycle_at}
use Rattle.rulebook.specs.declared.command.Command.{Command}
use Rattle.rulebook.specs.declared.command.Kind.TheVariants.{Activate}
use Rattle.rulebook.specs.declared.rule.Rule.{Rule}
use Rattle.rulebook.specs.declared.rule.Rule.TheVariants.{CyclesRise, InsideChip, ActivateClosed, PrechargeOpen, ColumnOpen, ActivateActivateSame, ActivateActivateOther, ActivatePrecharge, ActivateColumn, PrechargeActivate, ColumnColumn, ReadWrite, WriteRead, ReadPrecharge, WritePrecharge, FourActivates}
use Rattle.rulebook.proofs.Four.{FourApart, told_four}
use Rattle.rulebook.proofs.Told.{Told, told_gap}
use Rattle.trace.specs.Board.{board_told, board_made}
use Rattle.trace.specs.Fields.{and_then}
use Rattle.trace.specs.Line.{command_in}
use Rattle.trace.specs.Text.{no_command, line_at, line_count, lines_of}
use Rattle.trace.specs.declared.board.BoardRefusal.{BoardRefusal}
use Rattle.trace.proofs.TextLaws.{length_lines, get_or_lines}
use Rattle.checker.specs.Judging.{JudgedLines, JudgedBy, JudgedText}
use Rattle.checker.specs.declared.refusals.TextRefusal.{TextRefusal}
use Rattle.checker.specs.declared.refusals.TextRefusal.TheVariants.{TooLong, Board as OfBoard, Malformed, Broken}
use Rattle.report.specs.Gaps.{gap_of, is_of, counts_from, From, latest_such, counted_from, pair_near, missing_gap, Named}
use Rattle.report.specs.Judging.{GapTold, GapNamed}
use Rattle.report.specs.declared.gaps.Near.{Near}
use Rattle.report.proofs.Backwards.{missing_by, latest_found}
use Rattle.report.proofs.Latest.{StandFor, cycle_of, latest_is, activate_is}
use Rattle.report.proofs.Sheets.{same_gap}
use Rattle.report.proofs.Sorts.{asks_from, counted}

-- a command is there from which the gap has not passed
record OneNear (o : Option Command) (gap t : ℕ) : Type 0 where
  pub one : Command
  pub is : o ≡ Some one
  pub soon : t < one.cycle + gap

-- where a test tells of a fact that is false
one_near : (o : Option Command) (gap t : ℕ) (Q : Type 0) → Told (too_soon (cycle_of o) gap t) Q → (Q → ⊥) → OneNear o gap t
one_near None gap t Q told unkept = absurd (unkept told)
one_near (Some a) gap t Q told unkept = by_test (ltb t (a.cycle + gap)) refl told
  where
    by_test : (b : Bool) → ltb t (a.cycle + gap) ≡ b → Told b Q → OneNear (Some a) gap t
    by_test true e f = record { one = a; is = refl; soon = ltb-true t (a.cycle + gap) e }
    by_test false e q = absurd (unkept q)

-- a gap from every command of the rule's sort, which is not kept
by_latest : (rule : Rule) (c : Command) (s : Sheet) (k : Chip) (text : List ℕ) (cs : List Command) (gap : ℕ) → StandFor text cs → Obeys s k cs →
    (Every (λ a. From rule c a → a.cycle + gap ≤ c.cycle) cs → ⊥) → OneNear (latest_such (counts_from rule c) 0 text (length cs)) gap c.cycle
by_latest rule c s k text cs gap stand obeys unkept =
    let o = latest_such (counts_from rule c) 0 text (length cs) in
    let all : take (length cs) cs ≡ cs = take_all (length cs) cs (omega arith) in
    let latest = subst (λ (t : List Command). Latest (From rule c) t (cycle_of o)) all (latest_is (counts_from rule c) (From rule c) (asks_from rule c) s k text cs stand obeys (length cs) (omega arith)) in
    one_near o gap c.cycle (Every (λ a. From rule c a → a.cycle + gap ≤ c.cycle) cs) (told_gap (From rule c) cs (cycle_of o) gap c.cycle latest) unkept

-- a gap from the fourth activate back, which is not kept
by_fourth : (c : Command) (text : List ℕ) (cs : List Command) (gap : ℕ) → StandFor text cs →
    (FourApart gap c.cycle (activates cs) → ⊥) → OneNear (latest_such (is_of Activate) 3 text (length cs)) gap c.cycle
by_fourth c text cs gap stand unkept =
    let o = latest_such (is_of Activate) 3 text (length cs) in
    let all : take (length cs) cs ≡ cs = take_all (length cs) cs (omega arith) in
    let fourth = activate_is text cs stand (length cs) (omega arith) 3 ∙ ap (λ (t : List Command). cycle_at 3 (reverse (activates t))) all in
    one_near o gap c.cycle (FourApart gap c.cycle (activates cs))
    (subst (λ (n : Option ℕ). Told (too_soon n gap c.cycle) (FourApart gap c.cycle (activates cs))) (sym fourth) (told_four gap c.cycle (activates cs) (reverse (activates cs)) refl)) unkept

no_gap : {X : Type 0} (g : Cycles) → None ≡ Some g → X
no_gap g e = cc

-- by the rule's own gap, whichever way it is given
by_gap : (o : Option Command) (t : ℕ) (h g : Cycles) → Some h ≡ Some g → OneNear o h.0 t → OneNear o g.0 t
by_gap o t h g e = subst (λ (q : Cycles). OneNear o q.0 t) (let same : h ≡ g = cc in same)

-- a gap rule that is broken
broken_near : (s : Sheet) (k : Chip) (text : List ℕ) (cs : List Command) (c : Command) (rule : Rule) (g : Cycles) → StandFor text cs → Obeys s k cs →
    gap_of s rule ≡ Some g → (Holds s k rule cs c → ⊥) → OneNear (counted_from rule c text (length cs)) g.0 c.cycle
broken_near s k text cs c CyclesRise g stand obeys e unkept = no_gap g e
broken_near s k text cs c InsideChip g stand obeys e unkept = no_gap g e
broken_near s k text cs c ActivateClosed g stand obeys e unkept = no_gap g e
broken_near s k text cs c PrechargeOpen g stand obeys e unkept = no_gap g e
broken_near s k text cs c ColumnOpen g stand obeys e unkept = no_gap g e
broken_near s k text cs c ActivateActivateSame g stand obeys e unkept =
    by_gap (counted_from ActivateActivateSame c text (length cs)) c.cycle s.rc g e (by_latest ActivateActivateSame c s k text cs s.rc.0 stand obeys (λ all. unkept (λ _. all)))
broken_near s k text cs c ActivateActivateOther g stand obeys e unkept =
    by_gap (counted_from ActivateActivateOther c text (length cs)) c.cycle s.rrd g e (by_latest ActivateActivateOther c s k text cs s.rrd.0 stand obeys (λ all. unkept (λ _. all)))
broken_near s k text cs c ActivatePrecharge g stand obeys e unkept =
    by_gap (counted_from ActivatePrecharge c text (length cs)) c.cycle s.ras g e (by_latest ActivatePrecharge c s k text cs s.ras.0 stand obeys (λ all. unkept (λ _. all)))
broken_near s k text cs c ActivateColumn g stand obeys e unkept =
    by_gap (counted_from ActivateColumn c text (length cs)) c.cycle s.rcd g e (by_latest ActivateColumn c s k text cs s.rcd.0 stand obeys (λ all. unkept (λ _. all)))
broken_near s k text cs c PrechargeActivate g stand obeys e unkept =
    by_gap (counted_from PrechargeActivate c text (length cs)) c.cycle s.rp g e (by_latest PrechargeActivate c s k text cs s.rp.0 stand obeys (λ all. unkept (λ _. all)))
broken_near s k text cs c ColumnColumn g stand obeys e unkept =
    by_gap (counted_from ColumnColumn c text (length cs)) c.cycle s.ccd g e (by_latest ColumnColumn c s k text cs s.ccd.0 stand obeys (λ all. unkept (λ _. all)))
broken_near s k text cs c ReadWrite g stand obeys e unkept =
    by_gap (counted_from ReadWrite c text (length cs)) c.cycle (cycles (read_to_write s)) g e (by_latest ReadWrite c s k text cs (read_to_write s) stand obeys (λ all. unkept (λ _. all)))
broken_near s k text cs c WriteRead g stand obeys e unkept =
    by_gap (counted_from WriteRead c text (length cs)) c.cycle (cycles (write_to_read s)) g e (by_latest WriteRead c s k text cs (write_to_read s) stand obeys (λ all. unkept (λ _. all)))
broken_near s k text cs c ReadPrecharge g stand obeys e unkept =
    by_gap (counted_from ReadPrecharge c text (length cs)) c.cycle s.rtp g e (by_latest ReadPrecharge c s k text cs s.rtp.0 stand obeys (λ all. unkept (λ _. all)))
broken_near s k text cs c WritePrecharge g stand obeys e unkept =
    by_gap (counted_from WritePrecharge c text (length cs)) c.cycle (cycles (write_to_precharge s)) g e (by_latest WritePrecharge c s k text cs (write_to_precharge s) stand obeys (λ all. unkept (λ _. all)))
broken_near s k text cs c FourActivates g stand obeys e unkept =
    by_gap (counted_from FourActivates c text (length cs)) c.cycle s.faw g e (by_fourth c text cs s.faw.0 stand (λ all. unkept (λ _. all)))

-- the lines before the bad one stand for the commands
lines_stand : (text : List ℕ) (line : ℕ) (cs : List Command) → line < line_count text → map command_in (take line (lines_of text)) ≡ map Some cs → (length cs ≡ line) × StandFor text cs
lines_stand text line cs h e =
    let lines = lines_of text in
    let long : line ≤ length (lines_of text) = omega (arith, length_lines text) in
    let same : length cs ≡ line = sym (length-map cs Some) ∙ sym (ap length e) ∙ length-map (take line lines) command_in ∙ length-take-le line lines long in (
      same,
      λ i below.
          let inside : i < length (take line (lines_of text)) = omega (arith, length-take-le line lines long) in
          ap command_in (sym (get_or_lines text i (omega arith)) ∙ sym (get_or-take line lines i [] (omega arith)))
          ∙ sym (get_or-map command_in (take line lines) i [] None inside)
          ∙ ap (λ (t : List (Option Command)). get_or t i None) e
          ∙ get_or-map Some cs i no_command None below,
    )

-- what is missing, from its parts
missing_is : (s : Sheet) (text : List ℕ) (line : ℕ) (rule : Rule) (g : Cycles) (c a : Command) → gap_of s rule ≡ Some g → command_in (line_at text line) ≡ Some c →
    counted_from rule c text line ≡ Some a → c.cycle < a.cycle + g.0 → missing_gap s text line rule ≡ Some (record { earlier = a.cycle; later = c.cycle; needed = g })
missing_is s text line rule g c a e f d soon =
    sym (missing_by s text line rule g c (Some a) (sym e) (sym f) (sym d))
    ∙ cond-true (ltb c.cycle (a.cycle + g.0)) _ None (lt-ltb c.cycle (a.cycle + g.0) soon)

-- the gap is named at a line that breaks a rule
named_at : (s t : Sheet) (k : Chip) (text : List ℕ) (line : ℕ) (rule : Rule) (o : Option Cycles) → gap_of s rule ≡ o → gap_of t rule ≡ o →
    JudgedLines t k text (Err (Broken line rule)) → Named s text line rule (missing_gap s text line rule)
named_at s t k text line rule None e f j =
    subst (λ (n : Option Near). Named s text line rule n)
    (sym (ap (λ (o : Option Cycles). and_then o (λ gap. and_then (command_in (line_at text line)) (λ later. and_then (counted_from rule later text line) (λ earlier. pair_near gap earlier later)))) e)) e
named_at s t k text line rule (Some g) e f j =
    let cs = j.2.0 in
    let lawful = j.2.1 in
    let c = j.2.2.0 in
    let there = j.2.2.1 in
    let stand = lines_stand text line cs j.1 lawful.stand_for in
    let near = broken_near t k text cs c rule g stand.1 lawful.obeys f j.2.2.2.broken in
    let from : counted_from rule c text line ≡ Some near.one = ap (λ n. counted_from rule c text n) (sym stand.0) ∙ near.is in
    let found = latest_found (counts_from rule c) _ line text near.one from in
    subst (λ (n : Option Near). Named s text line rule n) (sym (missing_is s text line rule g c near.one e there from near.soon))
    (record {
      at = found.at;
      earlier = near.one;
      later = c;
      is_before = found.is_before;
      earlier_is = found.there;
      later_is = there;
      counts = counted rule c near.one found.is_such;
      cycles_are = (refl, refl);
      gap_is = e;
      too_soon = near.soon;
    })

named_by : (b : Board) (line text : List ℕ) (at : ℕ) (rule : Rule) (answer : Result Board BoardRefusal) → board_told (Ok b) ≡ board_made line → board_told answer ≡ board_made line →
    JudgedBy answer text (Err (Broken at rule)) → Named b.sheet text at rule (missing_gap b.sheet text at rule)
named_by b line text at rule (Err why) e f j = cc
named_by b line text at rule (Ok d) e f j = named_at b.sheet d.sheet d.chip text at rule (gap_of b.sheet rule) refl (same_gap d b rule (f ∙ sym e)) j

named_when : (b : Board) (line text : List ℕ) (at : ℕ) (rule : Rule) (long : Bool) → board_told (Ok b) ≡ board_made line →
    MatchBool long (◌≡◌ {A = Result ℕ TextRefusal} (Err (Broken at rule)) (Err TooLong)) ((answer : Result Board BoardRefusal) × (board_told answer ≡ board_made line) × JudgedBy answer text (Err (Broken at rule))) →
    Named b.sheet text at rule (missing_gap b.sheet text at rule)
named_when b line text at rule true e j = cc
named_when b line text at rule false e j = named_by b line text at rule j.0 e j.1 j.2

-- the gap that is told says what the rule needed
pub gap_named : (line text : List ℕ) (answer : Result ℕ TextRefusal) (near : Option Near) → JudgedText line text answer → GapTold line text answer near → GapNamed line text answer near
gap_named line text (Ok count) near j g = tt
gap_named line text (Err TooLong) near j g = tt
gap_named line text (Err (OfBoard why)) near j g = tt
gap_named line text (Err (Malformed at)) near j g = tt
gap_named line text (Err (Broken at rule)) near j g = λ b e.
    subst (λ (n : Option Near). Named b.sheet text at rule n) (sym (g b e)) (named_when b line text at rule (ltb 1073741824 (length text)) e j)
