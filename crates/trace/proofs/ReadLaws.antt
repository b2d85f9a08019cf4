-- What is read is what was written, and only so.
use Rattle.std.proofs.Common.{◌≡◌, ℕ, suc, ◌+◌, false, cond, not, ltb, List, [], ◌∷◌, ◌++◌, map, length, take, drop, is_some, Some, None, Ok, Err, Option, Result, unwrap_or, sym, refl, ap, ◌∙◌, arith}
use lib.ListN.{length-map}
use Rattle.std.proofs.lemmas.List.{take_at}
use Rattle.std.proofs.lemmas.Bool.{le-ltb}
use Rattle.std.specs.List.{position_from}
use Rattle.sheet.specs.First.{first_place}
use Rattle.sheet.specs.Making.{Refused, refused, unless_at}
use Rattle.rulebook.specs.declared.command.Command.{Command}
use Rattle.trace.specs.Line.{command_in}
use Rattle.trace.specs.Text.{line_count, lines_of, no_command, malformed, command_at}
use Rattle.trace.specs.Reading.{read_told, reading, records_after, ReadOnlySo, ReadsBack}
use Rattle.trace.specs.declared.reading.ReadRefusal.{ReadRefusal}
use Rattle.sheet.proofs.First.{false_by, rest_by}
use Rattle.trace.proofs.TextLaws.{length_lines, only_so, read_back}
use Rattle.trace.proofs.Told.{counted}

-- lines that stand for these commands are well formed, and are read as they
record Known (ps : List (List ℕ)) (cs : List Command) (k : ℕ) : Type 0 where
  none_bad : position_from malformed k ps ≡ None
  commands : map command_at ps ≡ cs
  count : length ps ≡ length cs

well_formed : (p : List ℕ) (c : Command) → command_in p ≡ Some c → malformed p ≡ false
unfolding malformed
well_formed p c h = ap (λ o. not (is_some o)) h

pub known_command : (p : List ℕ) (c : Command) → command_in p ≡ Some c → command_at p ≡ c
unfolding command_at
known_command p c h = ap (λ o. unwrap_or o no_command) h

known : (ps : List (List ℕ)) (cs : List Command) (k : ℕ) → map command_in ps ≡ map Some cs → Known ps cs k
known [] [] k h = record { none_bad = refl; commands = refl; count = refl }
known [] (c ∷ cs) k h = cc
known (p ∷ ps) [] k h = cc
known (p ∷ ps) (c ∷ cs) k h =
    let first : command_in p ≡ Some c = cc in
    let r = known ps cs (k + 1) (cc) in
    record {
      none_bad = ap (λ b. cond b (Some k) (position_from malformed (k + 1) ps)) (well_formed p c first) ∙ r.none_bad;
      commands = λ i. known_command p c first i ∷ r.commands i;
      count = ap suc r.count;
    }

-- lines none of which is malformed stand for the commands that are read
some_command : (o : Option Command) → not (is_some o) ≡ false → o ≡ Some (unwrap_or o no_command)
some_command None e = cc
some_command (Some c) e = refl

stands_for : (p : List ℕ) → malformed p ≡ false → command_in p ≡ Some (command_at p)
unfolding malformed command_at
stands_for p e = some_command (command_in p) e

all_read : (ps : List (List ℕ)) (k : ℕ) → position_from malformed k ps ≡ None → map command_in ps ≡ map Some (map command_at ps)
all_read [] k h = refl
all_read (p ∷ ps) k h = λ i.
    stands_for p (false_by (malformed p) k (position_from malformed (k + 1) ps) h) i
    ∷ all_read ps (k + 1) (rest_by (malformed p) k (position_from malformed (k + 1) ps) h) i

pub read_only_so : (text : List ℕ) (r : Result ℕ ReadRefusal) (old after : List Command) →
    read_told r ≡ reading (length old) text → after ≡ records_after text r old → ReadOnlySo text r after
read_only_so text (Err why) old after e f = tt
read_only_so text (Ok count) old after e f =
    let c = counted 16 (first_place malformed (lines_of text)) (line_count text) count (ltb (length old) (line_count text)) e in
    let cs = map command_at (lines_of text) in
    let front : take count after ≡ map command_at (lines_of text) =
    ap (take count) f ∙ take_at cs (drop count old) count (length-map (lines_of text) command_at ∙ length_lines text ∙ sym c.1) in
    only_so text (take count after) (all_read (lines_of text) 0 c.0 ∙ ap (map Some) (sym front))

told_count : (r : Result ℕ ReadRefusal) (n : ℕ) → read_told r ≡ Ok n → r ≡ Ok n
told_count (Ok count) n e = ap Ok (some_count count n e)
  where
    some_count : (a b : ℕ) → ◌≡◌ {A = Result ℕ Refused} (Ok a) (Ok b) → a ≡ b
    some_count a b h = cc
told_count (Err why) n e = cc

pub reads_back : (text : List ℕ) (r : Result ℕ ReadRefusal) (old after : List Command) →
    read_told r ≡ reading (length old) text → after ≡ records_after text r old → ReadsBack text old r after
reads_back text r old after e f = λ cs h room.
    let k = known (lines_of text) cs 0 (read_back text cs h) in
    let n = length cs in
    let lines : line_count text ≡ length cs = sym (length_lines text) ∙ k.count in
    let fits : ltb (length old) (line_count text) ≡ false = le-ltb (length old) (line_count text) (omega arith) in
    let is : r ≡ Ok (length cs) = told_count r n (
    e
    ∙ ap (λ b. cond b (refused 15) (unless_at 16 (first_place malformed (lines_of text)) (Ok (line_count text)))) fits
    ∙ (λ i. unless_at 16 (k.none_bad i) (Ok (lines i)))) in
    (is, f ∙ ap (λ s. records_after text s old) is ∙ ap (λ t. t ++ drop n old) k.commands)
