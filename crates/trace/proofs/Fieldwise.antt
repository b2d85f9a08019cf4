-- A field of digits and what follows: it is read from its digits, and only from them.
use Rattle.std.proofs.Common.{◌≡◌, ℕ, zero, suc, ◌*◌, ◌/◌, ◌^◌, ◌<◌, ◌≤◌, Bool, true, false, cond, leb, List, [], ◌∷◌, ◌++◌, length, take, drop, Some, None, Option, sym, refl, ap, ◌∙◌, mod-lt, div-add-mod', arith, eqb-true, leb-true}
use native.Mathlib.Nat.{div-eq_of_lt, one-le-pow}
use Rattle.std.proofs.lemmas.List.{take_at, drop_at, take-append-drop, length-take-le, length-append}
use Rattle.std.proofs.lemmas.Bool.{le-leb}
use Rattle.trace.specs.Digits.{digits, number_after, number_in}
use Rattle.trace.specs.Fields.{and_then, field_in, with_field, is_feed}
use Rattle.trace.proofs.Numbers.{reads_digits, written_as}

pub length_digits : (w n : ℕ) → length (digits w n) ≡ w
unfolding digits
length_digits zero n = refl
length_digits (suc w) n = ap suc (length_digits w n)

field_of_digits : (w n : ℕ) (rest : List ℕ) → n < 16 ^ w → field_in w (digits w n ++ rest) ≡ Some n
unfolding field_in number_in
field_of_digits w n rest h =
    let bs = digits w n ++ rest in
    let long : w ≤ length (digits w n ++ rest) = omega (arith, length-append (digits w n) rest, length_digits w n) in
    ap (λ b. cond b (number_in (take w bs)) None) (le-leb w (length bs) long)
    ∙ ap number_in (take_at (digits w n) rest w (length_digits w n))
    ∙ ap (λ m. number_after m (digits w n)) (sym (div-eq_of_lt h))
    ∙ reads_digits w n

pub reads_field : {X : Type 0} (w n : ℕ) (rest : List ℕ) (f : ℕ → List ℕ → Option X) → n < 16 ^ w → with_field w (digits w n ++ rest) f ≡ f n rest
reads_field w n rest f h =
    ap (λ o. and_then o (λ m. f m (drop w (digits w n ++ rest)))) (field_of_digits w n rest h)
    ∙ ap (f n) (drop_at (digits w n) rest w (length_digits w n))

-- a number over which a power divides to 0 lies below it
below : (n p : ℕ) → 0 < p → n / p ≡ 0 → n < p
below n p some e = omega (arith, div-add-mod' n p, ap (λ q. q * p) e, mod-lt n some)

long_enough : (w n : ℕ) (bs : List ℕ) (v : Bool) → v ≡ leb w (length bs) → cond v (number_in (take w bs)) None ≡ Some n → (w ≤ length bs) × (number_in (take w bs) ≡ Some n)
long_enough w n bs true e h = (leb-true w (length bs) (sym e), h)
long_enough w n bs false e h = cc

-- what a field of w digits was read from
pub record Read_from (w n : ℕ) (bs : List ℕ) : Type 0 where
  pub bytes : bs ≡ digits w n ++ drop w bs
  pub small : n < 16 ^ w

digits_of_field : (w n : ℕ) (bs : List ℕ) → field_in w bs ≡ Some n → Read_from w n bs
unfolding field_in number_in
digits_of_field w n bs e =
    let h = long_enough w n bs (leb w (length bs)) refl e in
    let r = written_as (take w bs) 0 n h.1 in
    let len = length-take-le w bs h.0 in
    record {
      bytes = sym (take-append-drop w bs) ∙ ap (λ t. t ++ drop w bs) (r.bytes ∙ ap (λ k. digits k n) len);
      small = below n (16 ^ w) (one-le-pow w 16 (omega arith)) (ap (λ k. n / 16 ^ k) (sym len) ∙ r.front);
    }

-- a field that was read, and what follows of the rest
pub record Then {X : Type 0} (w : ℕ) (bs : List ℕ) (f : ℕ → List ℕ → Option X) (x : X) : Type 0 where
  pub number : ℕ
  pub from : Read_from w number bs
  pub rest : f number (drop w bs) ≡ Some x

then_by : {X : Type 0} (w : ℕ) (bs : List ℕ) (f : ℕ → List ℕ → Option X) (x : X) (o : Option ℕ) → o ≡ field_in w bs → and_then o (λ n. f n (drop w bs)) ≡ Some x → Then w bs f x
then_by w bs f x None e h = cc
then_by w bs f x (Some n) e h = record { number = n; from = digits_of_field w n bs (sym e); rest = h }

pub field_then : {X : Type 0} (w : ℕ) (bs : List ℕ) (f : ℕ → List ℕ → Option X) (x : X) → with_field w bs f ≡ Some x → Then w bs f x
field_then w bs f x h = then_by w bs f x (field_in w bs) refl h

-- a line feed and nothing else
pub only_feed : (bs : List ℕ) → is_feed bs ≡ true → bs ≡ 10 ∷ []
only_feed [] e = cc
only_feed (b ∷ []) e = ap (λ c. c ∷ []) (eqb-true b 10 e)
only_feed (b ∷ c ∷ cs) e = cc
