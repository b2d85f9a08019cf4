-- Going back line by line.
use Rattle.std.proofs.Common.{◌≡◌, ℕ, zero, suc, ◌+◌, ◌-◌, ◌*◌, ◌/◌, ◌<◌, ◌≤◌, Bool, true, false, cond, List, [], ◌∷◌, ◌++◌, length, take, drop, Some, None, Option, sym, refl, ap, ◌∙◌, subst, arith}
use mathlib.Core.Logic.{⊎_elim}
use Rattle.std.specs.Iterator.Adapters.{rev_source, rev_steps}
use Rattle.std.specs.List.{slice_get, filter_map, cons_option}
use Rattle.std.specs.Slice.Iter.{chunks_rest, chunks_size, chunks_steps_back}
use Rattle.std.specs.declared.iter.Rev.{Rev}
use Rattle.std.specs.declared.slice.Chunks.{Chunks}
use Rattle.std.proofs.lemmas.Bool.{cases_lt}
use Rattle.std.proofs.lemmas.Iterator.{YieldsList}
use Rattle.std.proofs.lemmas.Iterator.Splits.{YieldsList-from_shown_while}
use Rattle.std.proofs.lemmas.List.{length-append, length-drop, length-take-le, take-append-le, drop-append-le, take-append-drop, drop_at, take_all, drop_all}
use Rattle.std.proofs.lemmas.Option.{none-some}
use Rattle.sheet.specs.declared.accepted.Sheet.{Sheet}
use Rattle.sheet.specs.declared.units.Cycles.{Cycles}
use Rattle.rulebook.specs.declared.command.Command.{Command}
use Rattle.rulebook.specs.declared.rule.Rule.{Rule}
use Rattle.trace.specs.Fields.{and_then, field_in}
use Rattle.trace.specs.Line.{command_in}
use Rattle.trace.specs.Text.{line_at, line_count}
use Rattle.report.specs.Gaps.{gap_of, counts_from, passed_over, such_in, step_back, latest_such, counted_from, pair_near, missing_gap}

-- a line of the front of a text
line_in_front : (front behind : List ℕ) (k : ℕ) → 27 * k + 27 ≤ length front → line_at (front ++ behind) k ≡ line_at front k
line_in_front front behind k h =
    ap (take 27) (drop-append-le (27 * k) front behind (omega arith))
    ∙ take-append-le 27 (drop (27 * k) front) behind (omega (arith, length-drop (27 * k) front))

-- the first n lines of a text, the last first
abbrev pub lines_back : List ℕ → ℕ → List (List ℕ)
lines_back text zero = []
lines_back text (suc n) = line_at text n ∷ lines_back text n

lines_in_front : (front behind : List ℕ) (n : ℕ) → 27 * n ≤ length front → lines_back (front ++ behind) n ≡ lines_back front n
lines_in_front front behind zero h = refl
lines_in_front front behind (suc n) h = λ i. line_in_front front behind n (omega (arith, h)) i ∷ lines_in_front front behind n (omega (arith, h)) i

-- the last line of a text, and those before it
one_back : (text front line : List ℕ) (size : ℕ) → size ≡ 27 → text ≡ front ++ line → length front ≡ (length text - 1) / size * size → 0 < length text →
    lines_back text (line_count text) ≡ line ∷ lines_back front (line_count front)
one_back text front line size s e long some =
    let m = line_count front in
    let cut : length front ≡ (length text - 1) / 27 * 27 = long ∙ (λ i. (length text - 1) / s i * s i) in
    let joined : length text ≡ length front + length line = ap length e ∙ length-append front line in
    let whole : 27 * m ≡ length front = omega (arith, cut) in
    let count : line_count text ≡ suc m = omega (arith, cut, some) in
    let last : line_at (front ++ line) m ≡ line = ap (take 27) (drop_at front line (27 * m) (sym whole)) ∙ take_all 27 line (omega (arith, cut, joined, some)) in
    ap (lines_back text) count
    ∙ (λ i. (ap (λ t. line_at t m) e ∙ last) i ∷ (ap (λ t. lines_back t m) e ∙ lines_in_front front line m (omega (arith, whole))) i)

-- what `chunks` of 27 bytes gives from its end
pub chunks_back : {s : Rev (Chunks ℕ)} (text : List ℕ) → chunks_rest (rev_source s) ≡ text → chunks_size (rev_source s) ≡ 27 →
    YieldsList (rev_steps chunks_steps_back) (λ line. line.now) s (lines_back text (line_count text))
chunks_back {s} text e size =
    subst (λ (bs : List ℕ). YieldsList (rev_steps chunks_steps_back) (λ line. line.now) s (lines_back bs (line_count bs))) e
    (YieldsList-from_shown_while (rev_steps chunks_steps_back) (λ line. line.now)
    (λ r. lines_back (chunks_rest (rev_source r)) (line_count (chunks_rest (rev_source r)))) (λ r. chunks_size (rev_source r) ≡ 27)
    (λ r t p step. ap (λ n. length (lines_back (chunks_rest (rev_source r)) n)) {y = 0} (omega (arith, step.1.0)))
    (λ r x t p step. (step.0 ∙ p, one_back (chunks_rest (rev_source r)) (chunks_rest (rev_source t)) x.now (chunks_size (rev_source r)) p step.1.0 step.1.1 step.1.2))
    s size)

step_is : (o : Option Command) (rest : List Command) (over : ℕ) (before : ℕ → Option Command) → ((left : ℕ) → slice_get rest left ≡ before left) → slice_get (cons_option o rest) over ≡ step_back o over before
step_is None rest over before e = e over
step_is (Some a) rest zero before e = refl
step_is (Some a) rest (suc over) before e = e over

-- the command at a place in the list of those that are such, counted back
pub nth_back : (such : Command → Bool) (over : ℕ) (text : List ℕ) (n : ℕ) → slice_get (filter_map (such_in such) (lines_back text n)) over ≡ latest_such such over text n
unfolding latest_such
nth_back such over text zero = refl
nth_back such over text (suc n) =
    step_is (such_in such (line_at text n)) (filter_map (such_in such) (lines_back text n)) over (λ left. latest_such such left text n)
    (λ left. nth_back such left text n)

-- a line that stands for a command begins inside the text
begins_inside : (text : List ℕ) (line : ℕ) (c : Command) → Some c ≡ command_in (line_at text line) → 27 * line < length text
unfolding field_in
begins_inside text line c e = ⊎_elim
    (λ inside. inside)
    (λ past. absurd (none-some c (sym (e ∙ ap (λ bs. command_in (take 27 bs)) (drop_all (27 * line) text past)))))
    (cases_lt (27 * line) (length text))

-- in the text before a line the same is found as before the line
before_line : (such : Command → Bool) (over : ℕ) (text : List ℕ) (line : ℕ) → 27 * line < length text →
    latest_such such over (take (27 * line) text) (line_count (take (27 * line) text)) ≡ latest_such such over text line
before_line such over text line h =
    let front = take (27 * line) text in
    let behind = drop (27 * line) text in
    let long : length front ≡ 27 * line = length-take-le (27 * line) text (omega arith) in
    let count : line_count front ≡ line = omega (arith, long) in
    ap (latest_such such over front) count
    ∙ sym (nth_back such over front line)
    ∙ ap (λ (ls : List (List ℕ)). slice_get (filter_map (such_in such) ls) over) (sym (lines_in_front front behind line (omega (arith, long))))
    ∙ nth_back such over (front ++ behind) line
    ∙ ap (λ (t : List ℕ). latest_such such over t line) (take-append-drop (27 * line) text)

-- what is missing, from its parts
pub missing_by : (s : Sheet) (text : List ℕ) (line : ℕ) (rule : Rule) (gap : Cycles) (later : Command) (o : Option Command) → Some gap ≡ gap_of s rule → Some later ≡ command_in (line_at text line) →
    o ≡ counted_from rule later text line → and_then o (λ earlier. pair_near gap earlier later) ≡ missing_gap s text line rule
missing_by s text line rule gap later o e f h =
    ap (λ (q : Option Command). and_then q (λ earlier. pair_near gap earlier later)) h
    ∙ ap (λ (q : Option Command). and_then q (λ c. and_then (counted_from rule c text line) (λ earlier. pair_near gap earlier c))) f
    ∙ ap (λ (q : Option Cycles). and_then q (λ g. and_then (command_in (line_at text line)) (λ c. and_then (counted_from rule c text line) (λ earlier. pair_near g earlier c)))) e

-- the same, where the command is looked for in the text before the line
pub missing_before : (s : Sheet) (text : List ℕ) (line : ℕ) (rule : Rule) (gap : Cycles) (later : Command) (o : Option Command) → Some gap ≡ gap_of s rule → Some later ≡ command_in (line_at text line) →
    o ≡ counted_from rule later (take (27 * line) text) (line_count (take (27 * line) text)) → and_then o (λ earlier. pair_near gap earlier later) ≡ missing_gap s text line rule
missing_before s text line rule gap later o e f h =
    missing_by s text line rule gap later o e f (h ∙ before_line (counts_from rule later) (passed_over rule) text line (begins_inside text line later f))

-- a command on one of the first n lines that is such
pub record Found (such : Command → Bool) (text : List ℕ) (n : ℕ) (a : Command) : Type 0 where
  pub at : ℕ
  pub is_before : at < n
  pub there : command_in (line_at text at) ≡ Some a
  pub is_such : such a ≡ true

such_by : (such : Command → Bool) (o : Option Command) (d : Command) → and_then o (λ a. cond (such a) (Some a) None) ≡ Some d → (o ≡ Some d) × (such d ≡ true)
such_by such None d e = cc
such_by such (Some a) d e = by_test (such a) refl e
  where
    by_test : (b : Bool) → such a ≡ b → cond b (Some a) None ≡ Some d → (Some a ≡ Some d) × (such d ≡ true)
    by_test true y f = (f, let same : a ≡ d = cc in cc)
    by_test false y f = cc

further : (such : Command → Bool) (text : List ℕ) (n : ℕ) (a : Command) → Found such text n a → Found such text (suc n) a
further such text n a f = record { at = f.at; is_before = omega (arith, f.is_before); there = f.there; is_such = f.is_such }

by_line : (such : Command → Bool) (text : List ℕ) (n : ℕ) (a : Command) (o : Option Command) (over : ℕ) → such_in such (line_at text n) ≡ o →
    ((left : ℕ) → latest_such such left text n ≡ Some a → Found such text n a) → step_back o over (λ left. latest_such such left text n) ≡ Some a → Found such text (suc n) a
by_line such text n a None over e before f = further such text n a (before over f)
by_line such text n a (Some d) (suc left) e before f = further such text n a (before left f)
by_line such text n a (Some d) zero e before f =
    let p = such_by such (command_in (line_at text n)) a (e ∙ f) in
    record { at = n; is_before = omega arith; there = p.0; is_such = p.1 }

-- what is found going back stands on one of the lines
pub latest_found : (such : Command → Bool) (over n : ℕ) (text : List ℕ) (a : Command) → latest_such such over text n ≡ Some a → Found such text n a
unfolding latest_such
latest_found such over zero text a e = cc
latest_found such over (suc n) text a e = by_line such text n a (such_in such (line_at text n)) over refl (λ left f. latest_found such left n text a f) e
