-- What `{:016X}` writes is the number's last 16 digits.
use Rattle.std.proofs.Common.{◌≡◌, ℕ, zero, suc, ◌+◌, ◌-◌, ◌/◌, ◌%◌, ◌^◌, ◌<◌, ◌≤◌, ◌⊎◌, inl, inr, Bool, cond, eqb, true, false, List, [], ◌∷◌, ◌++◌, length, replicate, sym, refl, ap, ◌∙◌, append_assoc, append-nil, pow-suc, arith}
use native.Mathlib.Nat.{zero-div, pow-zero}
use Rattle.std.specs.Fmt.{digits as shown_digits, digits_onto, digit_glyph, char_count, padded_integral, format_spec}
use Rattle.std.proofs.lemmas.Bool.{cases_lt, eq-eqb, ne_eqb}
use Rattle.trace.specs.Digits.{digit, digits}
use Rattle.trace.proofs.WriteLaws.{digits_last}

no_digits : (w : ℕ) → digits w 0 ≡ replicate w 48
unfolding digits digit
no_digits zero = refl
no_digits (suc w) = λ i. digit (zero-div (16 ^ w) i % 16) ∷ no_digits w i

glyph_is : (n : ℕ) → digit_glyph true n ≡ digit n
unfolding digit
glyph_is n = refl

digits_onto-nil : (base : ℕ) (upper : Bool) (n : ℕ) → digits_onto 64 base upper n [] ≡ shown_digits base upper n
unfolding shown_digits
digits_onto-nil base upper n = refl

-- what the test for the last digit comes to
tested : (k n : ℕ) (acc : List ℕ) (b : Bool) → eqb (n / 16) 0 ≡ b →
    digits_onto (suc k) 16 true n acc ≡ cond b (digit_glyph true (n % 16) ∷ acc) (digits_onto k 16 true (n / 16) (digit_glyph true (n % 16) ∷ acc))
tested k n acc b e = ap (λ t. cond t (digit_glyph true (n % 16) ∷ acc) (digits_onto k 16 true (n / 16) (digit_glyph true (n % 16) ∷ acc))) e

-- zeros before the one digit that is left
last_filled : (k w n : ℕ) (acc : List ℕ) → n < 16 →
    replicate (suc w + length acc - length (digits_onto (suc k) 16 true n acc)) 48 ++ digits_onto (suc k) 16 true n acc ≡ digits (suc w) n ++ acc
last_filled k w n acc small =
    let none : n / 16 ≡ 0 = omega arith in
    let last = tested k n acc true (eq-eqb (n / 16) 0 none) in
    let left : suc w + length acc - length (digit_glyph true (n % 16) ∷ acc) ≡ w = omega arith in
    ap (λ ds. replicate (suc w + length acc - length ds) 48 ++ ds) last
    ∙ (λ i. replicate (left i) 48 ++ glyph_is (n % 16) i ∷ acc)
    ∙ sym (append_assoc (replicate w 48) (digit (n % 16) ∷ []) acc)
    ∙ ap (λ front. (front ++ digit (n % 16) ∷ []) ++ acc) (sym (no_digits w) ∙ ap (digits w) (sym none))
    ∙ ap (λ ds. ds ++ acc) (sym (digits_last w n))

-- zeros before a number's digits make the last w digits of it
filled : (k w n : ℕ) (acc : List ℕ) → suc w ≤ k → n < 16 ^ suc w →
    replicate (suc w + length acc - length (digits_onto k 16 true n acc)) 48 ++ digits_onto k 16 true n acc ≡ digits (suc w) n ++ acc
filled zero w n acc room small = absurd (omega arith)
filled (suc k) zero n acc room small = last_filled k zero n acc (omega (arith, small, pow-suc 16 0, pow-zero 16))
filled (suc k) (suc w) n acc room small = by_size (cases_lt n 16) (λ small. filled k w (n / 16) (digit_glyph true (n % 16) ∷ acc) (omega arith) small)
  where
    by_size : (n < 16) ⊎ (16 ≤ n) →
        (n / 16 < 16 ^ suc w → replicate (suc w + length (digit_glyph true (n % 16) ∷ acc) - length (digits_onto k 16 true (n / 16) (digit_glyph true (n % 16) ∷ acc))) 48 ++ digits_onto k 16 true (n / 16) (digit_glyph true (n % 16) ∷ acc) ≡ digits (suc w) (n / 16) ++ digit_glyph true (n % 16) ∷ acc) →
        replicate (suc (suc w) + length acc - length (digits_onto (suc k) 16 true n acc)) 48 ++ digits_onto (suc k) 16 true n acc ≡ digits (suc (suc w)) n ++ acc
    by_size (inl one) rest = last_filled k (suc w) n acc one
    by_size (inr more) rest =
        let next = digit_glyph true (n % 16) ∷ acc in
        let step = tested k n acc false (ne_eqb (n / 16) 0 (λ none. omega arith)) in
        let count : suc (suc w) + length acc ≡ suc w + length next = omega arith in
        ap (λ ds. replicate (suc (suc w) + length acc - length ds) 48 ++ ds) step
        ∙ ap (λ m. replicate (m - length (digits_onto k 16 true (n / 16) next)) 48 ++ digits_onto k 16 true (n / 16) next) count
        ∙ rest (omega (arith, small, pow-suc 16 (suc w)))
        ∙ ap (λ d. digits (suc w) (n / 16) ++ d ∷ acc) (glyph_is (n % 16))
        ∙ sym (append_assoc (digits (suc w) (n / 16)) (digit (n % 16) ∷ []) acc)
        ∙ ap (λ ds. ds ++ acc) (sym (digits_last (suc w) n))

-- the zeros that are written before
zeros : (ds : List ℕ) → padded_integral (format_spec 32 0 4 16 (2 ^ 64 - 1)) false [] ds ≡ replicate (16 - length ds) 48 ++ ds
unfolding padded_integral char_count
zeros ds =
    let less : 16 - length ds - 0 - 0 ≡ 16 - length ds = omega arith in
    λ i. replicate (less i) 48 ++ append-nil ds i

pub sixteen_digits : (n : ℕ) → n < 2 ^ 64 → padded_integral (format_spec 32 0 4 16 (2 ^ 64 - 1)) false [] (shown_digits 16 true n) ≡ digits 16 n
sixteen_digits n h =
    zeros (shown_digits 16 true n)
    ∙ ap (λ ds. replicate (16 - length ds) 48 ++ ds) (sym (digits_onto-nil 16 true n))
    ∙ filled 64 15 n [] (omega arith) h
    ∙ append-nil (digits 16 n)
