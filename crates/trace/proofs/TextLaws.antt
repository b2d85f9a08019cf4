-- A text and its lines.
use Rattle.std.proofs.Common.{◌≡◌, ℕ, zero, suc, ◌+◌, ◌*◌, ◌<◌, ◌≤◌, min, ◌⊎◌, inl, inr, List, [], ◌∷◌, ◌++◌, map, length, get_or, take, drop, Some, None, Bor, sym, refl, ap, ◌∙◌, subst, append-nil, arith}
use Rattle.std.specs.declared.iter.Enumerate.{Enumerate}
use Rattle.std.specs.declared.slice.Chunks.{Chunks}
use Rattle.std.specs.List.{flat_map}
use Rattle.std.specs.Iterator.{AlwaysYields}
use Rattle.std.specs.Iterator.Adapters.{enumerate_source, enumerate_count, enumerate_steps}
use Rattle.std.specs.Slice.Iter.{chunks_rest, chunks_size, chunks_steps}
use Rattle.std.proofs.lemmas.Bool.{cases_lt}
use Rattle.std.proofs.lemmas.Iterator.{YieldsList}
use Rattle.std.proofs.lemmas.List.{nil_from_length, drop-drop, take_at, drop_at, take_all, drop_all, take-append-drop, length-append, length-drop}
use Rattle.sheet.specs.Units.{rounded_up}
use Rattle.rulebook.specs.declared.command.Command.{Command}
use Rattle.trace.specs.Line.{line_of, command_in}
use Rattle.trace.specs.Text.{line_count, line_at, pieces, lines_of, written, AllProper, ReadsAs, TextOf, LinesCorrespond}
use Rattle.trace.proofs.Fieldwise.{length_digits}
use Rattle.trace.proofs.Correspond.{reads_line, only_line}

pub length_line : (c : Command) → length (line_of c) ≡ 27
length_line c = simp (length-append, length_digits) refl

length_pieces : (n : ℕ) (bs : List ℕ) → length (pieces n bs) ≡ n
length_pieces zero bs = refl
length_pieces (suc n) bs = ap suc (length_pieces n (drop 27 bs))

pub length_lines : (text : List ℕ) → length (lines_of text) ≡ line_count text
unfolding lines_of
length_lines text = length_pieces (line_count text) text

get_or_pieces : (n k : ℕ) (bs : List ℕ) → k < n → get_or (pieces n bs) k [] ≡ line_at bs k
get_or_pieces zero k bs h = absurd (omega arith)
get_or_pieces (suc n) zero bs h = refl
get_or_pieces (suc n) (suc k) bs h =
    get_or_pieces n k (drop 27 bs) (omega arith) ∙ ap (take 27) (drop-drop (27 * k) 27 bs ∙ ap (λ m. drop m bs) (omega arith))

pub get_or_lines : (text : List ℕ) (k : ℕ) → k < line_count text → get_or (lines_of text) k [] ≡ line_at text k
unfolding lines_of
get_or_lines text k h = get_or_pieces (line_count text) k text h

-- the lines cover the text
covered : (n : ℕ) → n ≤ 27 * rounded_up n 27
covered n = omega arith

pub outside : (n k : ℕ) → rounded_up n 27 ≤ k → n ≤ 27 * k
outside n k h = omega arith

joined_pieces : (n : ℕ) (bs : List ℕ) → length bs ≤ 27 * n → flat_map (λ (l : List ℕ). l) (pieces n bs) ≡ bs
joined_pieces zero [] h = refl
joined_pieces zero (b ∷ bs) h = absurd (omega arith)
joined_pieces (suc n) bs h =
    ap (λ t. take 27 bs ++ t) (joined_pieces n (drop 27 bs) (omega (arith, length-drop 27 bs))) ∙ take-append-drop 27 bs

-- nothing is lost by cutting
joined_lines : (text : List ℕ) → flat_map (λ (l : List ℕ). l) (lines_of text) ≡ text
unfolding lines_of
joined_lines text = joined_pieces (line_count text) text (covered (length text))

-- a list that is cut behind n elements, or behind all where it is shorter
record Cut (n : ℕ) (xs ys : List ℕ) : Type 0 where
  front : take n (xs ++ ys) ≡ xs
  behind : drop n (xs ++ ys) ≡ ys

cut_by : (n : ℕ) (xs ys : List ℕ) → length xs ≡ min n (length (xs ++ ys)) → (length xs < n) ⊎ (n ≤ length xs) → Cut n xs ys
cut_by n xs ys h (inl short) =
    let none = nil_from_length ys (omega (arith, h, length-append xs ys)) in
    let all : xs ++ ys ≡ xs = ap (λ t. xs ++ t) none ∙ append-nil xs in
    record { front = ap (take n) all ∙ take_all n xs (omega arith); behind = ap (drop n) all ∙ drop_all n xs (omega arith) ∙ sym none }
cut_by n xs ys h (inr long) =
    let whole : length xs ≡ n = omega (arith, h) in
    record { front = take_at xs ys n whole; behind = drop_at xs ys n whole }

cut : (n : ℕ) (xs ys : List ℕ) → length xs ≡ min n (length (xs ++ ys)) → Cut n xs ys
cut n xs ys h = cut_by n xs ys h (cases_lt (length xs) n)

pieces_given : (n : ℕ) (s : _) → chunks_size {T = ℕ} s ≡ 27 → n ≡ rounded_up (length (chunks_rest s)) 27 → AlwaysYields chunks_steps (λ line. line.now) s (pieces n (chunks_rest s))
pieces_given zero s size count = λ line after step. omega (arith, count, step)
pieces_given (suc n) s size count = (
  λ after step. omega (arith, count, step.1.0),
  λ line after step.
      let text = chunks_rest s in
      let rest = chunks_rest after in
      let c = cut 27 line.now rest (step.1.1 ∙ (λ i. min (size i) (length (step.1.0 i)))) in
      let behind : drop 27 text ≡ rest = ap (drop 27) step.1.0 ∙ c.behind in
      let fewer : n ≡ rounded_up (length rest) 27 = omega (arith, count, step.1.2, ap length behind, length-drop 27 text) in (
        sym (ap (take 27) step.1.0 ∙ c.front),
        subst (λ (bs : List ℕ). AlwaysYields chunks_steps (λ l. l.now) after (pieces n bs)) (sym behind) (pieces_given n after (step.0 ∙ size) fewer),
      ),
)

-- `chunks` of 27 bytes gives a text's lines
pub chunks_are_lines : {s : _} (text : List ℕ) → chunks_rest s ≡ text → chunks_size s ≡ 27 → YieldsList chunks_steps (λ line. line.now) s (lines_of text)
unfolding lines_of
chunks_are_lines {s} text rest size =
    let given : AlwaysYields chunks_steps (λ line. line.now) s (pieces (line_count (chunks_rest s)) (chunks_rest s)) = pieces_given (line_count (chunks_rest s)) s size refl in
    record { runs = subst (λ (bs : List ℕ). AlwaysYields chunks_steps (λ line. line.now) s (pieces (line_count bs) bs)) rest given }

-- where a `for` over the numbered `chunks` of 27 bytes stands: their size, what it has left of the text, and how many lines it took
pub record AtLine (text : List ℕ) (s : Enumerate (Chunks ℕ)) : Type 0 where
  pub size_is : chunks_size (enumerate_source s) ≡ 27
  pub rest_is : chunks_rest (enumerate_source s) ≡ drop (27 * enumerate_count s) text
  pub within : enumerate_count s ≤ line_count text

pub before_lines : (text : List ℕ) (s : Enumerate (Chunks ℕ)) → chunks_size (enumerate_source s) ≡ 27 → chunks_rest (enumerate_source s) ≡ text → enumerate_count s ≡ 0 → AtLine text s
before_lines text s size rest z = record { size_is = size; rest_is = rest ∙ ap (λ n. drop (27 * n) text) (sym z); within = omega arith }

-- one turn of it: what came is line k, numbered k
pub record OneLine (text : List ℕ) (s : Enumerate (Chunks ℕ)) (k : ℕ) (line : List ℕ) (t : Enumerate (Chunks ℕ)) : Type 0 where
  pub numbered : k ≡ enumerate_count s
  pub is : line ≡ get_or (lines_of text) k []
  pub known : line ≡ line_at text k
  pub below : k < line_count text
  pub goes_on : AtLine text t
  pub next : enumerate_count t ≡ k + 1

pub one_line : (text : List ℕ) (s t : Enumerate (Chunks ℕ)) (p : ℕ × Bor (List ℕ)) → AtLine text s → enumerate_steps chunks_steps s (Some p) t → OneLine text s p.0 p.1.now t
one_line text s t p at step =
    let line = p.1.now in
    let rest = chunks_rest (enumerate_source s) in
    let after = chunks_rest (enumerate_source t) in
    let k = p.0 in
    let joined = step.0.1.0 in
    let here : rest ≡ drop (27 * k) text = at.rest_is ∙ ap (λ n. drop (27 * n) text) (sym step.1) in
    let c = cut 27 line after (step.0.1.1 ∙ (λ i. min (at.size_is i) (length (joined i)))) in
    let below : k < line_count text = omega (arith, step.0.1.2, ap length here, length-drop (27 * k) text) in
    let known : line ≡ line_at text k = sym c.front ∙ ap (take 27) (sym joined ∙ here) in
    let one : enumerate_count t ≡ k + 1 = omega (arith, step.1, step.2) in
    let behind : after ≡ drop (27 * (k + 1)) text =
    sym c.behind ∙ ap (drop 27) (sym joined ∙ here) ∙ drop-drop 27 (27 * k) text ∙ ap (λ n. drop n text) (omega arith) in
    record {
      numbered = step.1;
      is = known ∙ sym (get_or_lines text k below);
      known = known;
      below = below;
      goes_on = record { size_is = step.0.0 ∙ at.size_is; rest_is = behind ∙ ap (λ n. drop (27 * n) text) (sym one); within = omega (arith, below) };
      next = one;
    }

-- where nothing is left, all lines were taken
pub after_lines : (text : List ℕ) (s t : Enumerate (Chunks ℕ)) → AtLine text s → enumerate_steps chunks_steps s None t → enumerate_count s ≡ line_count text
after_lines text s t at step = omega (arith, step.0.1.0, at.within, ap length at.rest_is, length-drop (27 * enumerate_count s) text)

pub length_written : (cs : List Command) → length (written cs) ≡ 27 * length cs
length_written [] = refl
length_written (c ∷ cs) = length-append (line_of c) (written cs) ∙ omega (arith, length_line c, length_written cs)

whole : (n : ℕ) → rounded_up (27 * n) 27 ≡ n
whole n = omega arith

pieces_written : (cs : List Command) → pieces (length cs) (written cs) ≡ map line_of cs
pieces_written [] = refl
pieces_written (c ∷ cs) = λ i. take_at (line_of c) (written cs) 27 (length_line c) i ∷ (ap (pieces (length cs)) (drop_at (line_of c) (written cs) 27 (length_line c)) ∙ pieces_written cs) i

lines_written : (cs : List Command) → lines_of (written cs) ≡ map line_of cs
unfolding lines_of
lines_written cs = ap (λ n. pieces n (written cs)) (ap (λ n. rounded_up n 27) (length_written cs) ∙ whole (length cs)) ∙ pieces_written cs

read_each : (cs : List Command) → AllProper cs → map command_in (map line_of cs) ≡ map Some cs
read_each [] h = refl
read_each (c ∷ cs) h = λ i. reads_line c h.0 i ∷ read_each cs h.1 i

pub read_back : (text : List ℕ) (cs : List Command) → TextOf cs text → ReadsAs text cs
read_back text cs h = ap (λ t. map command_in (lines_of t)) h.1 ∙ ap (map command_in) (lines_written cs) ∙ read_each cs h.0

-- lines that are read as commands are the lines of proper commands
record Each (ps : List (List ℕ)) (cs : List Command) : Type 0 where
  all_proper : AllProper cs
  bytes : flat_map (λ (l : List ℕ). l) ps ≡ written cs

each_line : (ps : List (List ℕ)) (cs : List Command) → map command_in ps ≡ map Some cs → Each ps cs
each_line [] [] h = record { all_proper = tt; bytes = refl }
each_line [] (c ∷ cs) h = cc
each_line (p ∷ ps) [] h = cc
each_line (p ∷ ps) (c ∷ cs) h =
    let l = only_line p c (cc) in
    let r = each_line ps cs (cc) in
    record { all_proper = (l.is_proper, r.all_proper); bytes = λ i. l.bytes i ++ r.bytes i }

pub only_so : (text : List ℕ) (cs : List Command) → ReadsAs text cs → TextOf cs text
only_so text cs h =
    let e = each_line (lines_of text) cs h in
    (e.all_proper, sym (joined_lines text) ∙ e.bytes)

pub lines_correspond : LinesCorrespond
lines_correspond = record { only_so = only_so; read_back = read_back }
