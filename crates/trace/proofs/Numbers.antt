-- Digits that are written are read as the number, and only they are.
use Rattle.std.proofs.Common.{◌≡◌, ℕ, zero, suc, ◌+◌, ◌*◌, ◌/◌, ◌%◌, ◌^◌, ◌<◌, ◌≤◌, Bool, true, false, cond, leb, List, [], ◌∷◌, length, Some, None, Option, sym, refl, ap, ◌∙◌, mod-lt, pow-suc, div-add-mod', div-one, arith, leb-true}
use native.Mathlib.Nat.{div-div-eq-div-mul, pow-zero}
use Rattle.std.proofs.lemmas.Bool.{le-leb}
use Rattle.std.proofs.lemmas.Bool.Decides.{nat_tests}
use Rattle.trace.specs.Digits.{digit_value, digit, digits, number_after}

-- a digit's value and its byte
pub value_digit : (n : ℕ) → n < 16 → digit_value (digit n) ≡ n
unfolding digit_value digit
value_digit n h = grind (arith, nat_tests)

pub digit_of_value : (b : ℕ) → digit_value b ≤ 15 → digit (digit_value b) ≡ b
unfolding digit_value digit
digit_of_value b h = grind (arith, nat_tests)

-- the quotient by the next power of 16
quotient : (n w : ℕ) → n / 16 ^ suc w ≡ n / 16 ^ w / 16
quotient n w = ap (λ p. n / p) (pow-suc 16 w) ∙ sym (div-div-eq-div-mul n (16 ^ w) 16)

-- a digit more behind m
front_is : (m d : ℕ) → d ≤ 15 → (m * 16 + d) / 16 ≡ m
front_is m d h = omega arith

back_is : (m d : ℕ) → d ≤ 15 → (m * 16 + d) % 16 ≡ d
back_is m d h = omega arith

-- a number is read from its digits
pub reads_digits : (w n : ℕ) → number_after (n / 16 ^ w) (digits w n) ≡ Some n
unfolding digits
reads_digits zero n = ap (λ p. Some (n / p)) (pow-zero 16) ∙ ap Some (div-one n)
reads_digits (suc w) n =
    let q = n / 16 ^ w in
    let x = q % 16 in
    let v : digit_value (digit x) ≡ x = value_digit x (mod-lt q (omega arith)) in
    ap (λ d. cond (leb d 15) (number_after (n / 16 ^ suc w * 16 + d) (digits w n)) None) v
    ∙ ap (λ b. cond b (number_after (n / 16 ^ suc w * 16 + x) (digits w n)) None) (le-leb x 15 (omega (arith, mod-lt q {m = 16} (omega arith))))
    ∙ ap (λ m. number_after m (digits w n)) (ap (λ k. k * 16 + x) (quotient n w) ∙ div-add-mod' q 16)
    ∙ reads_digits w n

-- only its digits are read as a number
pub record WrittenAs (m n : ℕ) (bs : List ℕ) : Type 0 where
  pub front : n / 16 ^ length bs ≡ m
  pub bytes : bs ≡ digits (length bs) n

digit_first : (b m n : ℕ) (o : Option ℕ) (v : Bool) → v ≡ leb (digit_value b) 15 → cond v o None ≡ Some n → (digit_value b ≤ 15) × (o ≡ Some n)
digit_first b m n o true e h = (leb-true (digit_value b) 15 (sym e), h)
digit_first b m n o false e h = cc

pub written_as : (bs : List ℕ) (m n : ℕ) → number_after m bs ≡ Some n → WrittenAs m n bs
unfolding digits
written_as [] m n e = record { front = ap (λ p. n / p) (pow-zero 16) ∙ div-one n ∙ cc; bytes = refl }
written_as (b ∷ bs) m n e =
    let d = digit_value b in
    let h = digit_first b m n (number_after (m * 16 + d) bs) (leb d 15) refl e in
    let r = written_as bs (m * 16 + d) n h.1 in
    let w = length bs in
    record {
      front = quotient n w ∙ ap (λ k. k / 16) r.front ∙ front_is m d h.0;
      bytes = λ i. (sym (ap digit (ap (λ k. k % 16) r.front ∙ back_is m d h.0) ∙ digit_of_value b h.0) i) ∷ r.bytes i;
    }
