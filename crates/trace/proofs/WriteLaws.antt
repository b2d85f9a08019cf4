-- Digits and lines, written part after part.
use Rattle.std.proofs.Common.{◌≡◌, ℕ, zero, suc, ◌+◌, ◌*◌, ◌/◌, ◌%◌, ◌^◌, ◌<◌, ◌≤◌, true, false, ltb, List, [], ◌∷◌, ◌++◌, length, get_or, take, drop, set, None, Ok, Err, Result, sym, refl, ap, ◌∙◌, subst, div-one, arith}
use native.Mathlib.Nat.{pow-zero, pow-succ', div-div-eq-div-mul}
use borrow.Rule.Slice.PartMut.{put_mid}
use Rattle.std.proofs.lemmas.Bool.{not-false}
use Rattle.std.proofs.lemmas.List.{drop_more, drop_all, set_at, length-take-le, flat_map_more, take_more, take_at}
use Rattle.std.specs.List.{position_from}
use Rattle.sheet.specs.First.{first_place}
use Rattle.rulebook.specs.declared.command.Command.{Command}
use Rattle.trace.specs.Digits.{digit, digits}
use Rattle.trace.specs.Line.{proper, line_of}
use Rattle.trace.specs.Text.{written, AllProper}
use Rattle.trace.specs.Writing.{write_told, improper, writing, bytes_after, WrittenSo}
use Rattle.trace.specs.declared.writing.WriteRefusal.{WriteRefusal}
use Rattle.sheet.proofs.First.{false_by, rest_by}
use Rattle.trace.proofs.Fieldwise.{length_digits}
use Rattle.trace.proofs.TextLaws.{length_line, length_written}
use Rattle.trace.proofs.Told.{counted}
use Rattle.trace.proofs.Parts.{Filled, part_length, grow}

-- the last digit apart from those before it
pub digits_last : (w n : ℕ) → digits (suc w) n ≡ digits w (n / 16) ++ digit (n % 16) ∷ []
unfolding digits
digits_last zero n = ap (λ q. digit (q % 16) ∷ []) (ap (λ p. n / p) (pow-zero 16) ∙ div-one n)
digits_last (suc w) n = λ i.
    digit ((ap (λ p. n / p) (pow-succ' 16 w) ∙ sym (div-div-eq-div-mul n 16 (16 ^ w))) i % 16) ∷ digits_last w n i

-- the last digit behind those before it
pub digit_behind : (w k n y : ℕ) (front : List ℕ) → w ≡ suc k → front ≡ digits k (n / 16) → y ≡ digit (n % 16) → front ++ y ∷ [] ≡ digits w n
digit_behind w k n y front h f e = (λ i. f i ++ e i ∷ []) ∙ sym (digits_last k n) ∙ ap (λ m. digits m n) (sym h)

pub no_digits : (xs : List ℕ) (n : ℕ) → length xs ≡ 0 → xs ≡ digits (length xs) n
unfolding digits
no_digits [] n h = refl
no_digits (x ∷ xs) n h = absurd (omega arith)

-- a field's digits, written into its part
pub field_more : {old front : List ℕ} {a : ℕ} {xs : List ℕ} (k n m : ℕ) (ys : List ℕ) → a + k ≤ length old → Filled old front a xs → m ≡ n → ys ≡ digits (length (take k (drop a xs))) m → Filled old (front ++ digits k n) (a + k) (put_mid a k xs ys)
field_more {old} {front} {a} {xs} k n m ys h f same e =
    let d : ys ≡ digits k n = e ∙ (λ i. digits (part_length k h f i) (same i)) in
    subst (λ (t : List ℕ). Filled old (front ++ t) (a + k) (put_mid a k xs ys)) d (grow k ys f (ap length d ∙ length_digits k n))

-- the line feed in the last place
pub line_ends : {old front : List ℕ} {a : ℕ} {xs : List ℕ} (y : ℕ) → length old ≡ a + 1 → Filled old front a xs → set xs a y ≡ front ++ y ∷ []
line_ends {old} {front} {a} {xs} y h f =
    ap (λ t. set t a y) (f.is ∙ ap (λ t. front ++ t) (drop_more old a y (omega arith)))
    ∙ set_at front (get_or old a y) (drop (a + 1) old) y a f.len
    ∙ ap (λ t. front ++ y ∷ t) (drop_all (a + 1) old (omega arith))

-- one line more, into its part of the buffer
pub line_more : (cs : List Command) (k : ℕ) (d : Command) (old xs ys : List ℕ) (m : ℕ) → k < length cs → m ≡ 27 →
    xs ≡ written (take k cs) ++ drop (27 * k) old → ys ≡ line_of (get_or cs k d) →
    put_mid (27 * k) m xs ys ≡ written (take (k + 1) cs) ++ drop (27 * (k + 1)) old
line_more cs k d old xs ys m h w e y =
    let f : Filled old (written (take k cs)) (27 * k) xs = record {
      is = e;
      len = length_written (take k cs) ∙ ap (λ n. 27 * n) (length-take-le k cs (omega arith));
    } in
    (grow m ys f (ap length y ∙ length_line (get_or cs k d) ∙ sym w)).is
    ∙ ap (λ t. (written (take k cs) ++ t) ++ drop (27 * k + m) old) y
    ∙ ap (λ t. t ++ drop (27 * k + m) old) (flat_map_more line_of [] (take k cs) (get_or cs k d) ∙ ap written (sym (take_more cs k d h)))
    ∙ ap (λ n. written (take (k + 1) cs) ++ drop n old) (omega arith)

-- commands none of which is improper are proper
is_proper : (c : Command) → improper c ≡ false → proper c ≡ true
unfolding improper
is_proper c e = not-false (proper c) e

all_proper : (cs : List Command) (k : ℕ) → position_from improper k cs ≡ None → AllProper cs
all_proper [] k h = tt
all_proper (c ∷ cs) k h = (
  is_proper c (false_by (improper c) k (position_from improper (k + 1) cs) h),
  all_proper cs (k + 1) (rest_by (improper c) k (position_from improper (k + 1) cs) h),
)

pub written_so : (cs : List Command) (r : Result ℕ WriteRefusal) (old after : List ℕ) →
    write_told r ≡ writing (length old) cs → after ≡ bytes_after cs r old → WrittenSo cs r after
written_so cs (Err why) old after e f = tt
written_so cs (Ok count) old after e f =
    let c = counted 17 (first_place improper cs) (length cs) count (ltb (length old) (27 * length cs)) e in (
      all_proper cs 0 c.0,
      ap (take (27 * count)) f ∙ take_at (written cs) (drop (27 * count) old) (27 * count) (length_written cs ∙ ap (λ n. 27 * n) (sym c.1)),
    )
