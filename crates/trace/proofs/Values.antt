-- A field, read one digit a turn. Assumes nothing.
use Rattle.std.proofs.Common.{◌≡◌, ℕ, suc, ◌+◌, ◌-◌, ◌*◌, ◌^◌, ◌<◌, ◌≤◌, Bool, true, false, cond, leb, List, [], ◌∷◌, length, get_or, take, drop, Some, None, Option, sym, refl, ap, ◌∙◌, pow-suc, add-one, arith, leb-true}
use native.Mathlib.Nat.{pow-le-pow_right}
use Rattle.std.proofs.Math.Dec.{leb-suc-suc}
use Rattle.std.proofs.lemmas.Bool.{lt-leb}
use Rattle.trace.specs.Digits.{digit_value, digit_of, number_after, number_in}
use Rattle.trace.specs.Fields.{field_in}

pub grows : (n i d : ℕ) → n < 16 ^ i → d ≤ 15 → n * 16 + d < 16 ^ (i + 1)
grows n i d h e = omega (arith, ap (λ k. 16 ^ k) (add-one i), pow-suc 16 i)

pub fits : (n i d : ℕ) → n < 16 ^ i → i < 8 → d ≤ 15 → n * 16 + d < 2 ^ 32
fits n i d h l e = omega (arith, grows n i d h e, pow-le-pow_right {n = 16} (omega arith) {i = i + 1} {j = 8} (omega arith))

-- what the next w bytes make of the digits of n, if there are so many and all are digits
abbrev pub field_after : ℕ → ℕ → List ℕ → Option ℕ
field_after w n bs = cond (leb w (length bs)) (number_after n (take w bs)) None

pub begins : (w : ℕ) (bs : List ℕ) → field_after (w - 0) 0 bs ≡ field_in w bs
unfolding field_in number_in
begins w bs = ap (λ k. field_after k 0 bs) (omega arith)

either_first : (l d : Bool) (o : Option ℕ) → cond l (cond d o None) None ≡ cond d (cond l o None) None
either_first true d o = refl
either_first false true o = refl
either_first false false o = refl

one_digit : (w n b : ℕ) (bs : List ℕ) → field_after (suc w) n (b ∷ bs) ≡ cond (leb (digit_value b) 15) (field_after w (n * 16 + digit_value b) bs) None
one_digit w n b bs =
    let v = digit_value b in
    let o = number_after (n * 16 + v) (take w bs) in
    ap (λ t. cond t (cond (leb v 15) o None) None) (leb-suc-suc w (length bs)) ∙ either_first (leb w (length bs)) (leb v 15) o

-- a value under a condition
pub kept : {X : Type 0} (v : Bool) (x y : X) → cond v (Some x) None ≡ Some y → (v ≡ true) × (x ≡ y)
kept true x y h = (refl, cc)
kept false x y h = cc

pub digit_small : (b d : ℕ) → Some d ≡ digit_of b → d ≤ 15
digit_small b d e =
    let k = kept (leb (digit_value b) 15) (digit_value b) d (sym e) in
    omega (arith, k.1, leb-true (digit_value b) 15 k.0)

more_by : (w n m d : ℕ) (bs : List ℕ) → m ≡ suc w → 0 < length bs → Some d ≡ digit_of (get_or bs 0 0) → field_after w (n * 16 + d) (drop 1 bs) ≡ field_after m n bs
more_by w n m d [] s h e = absurd (omega arith)
more_by w n m d (b ∷ bs) s h e =
    let k = kept (leb (digit_value b) 15) (digit_value b) d (sym e) in
    ap (λ v. field_after w (n * 16 + v) bs) (sym k.1)
    ∙ ap (λ t. cond t (field_after w (n * 16 + digit_value b) bs) None) (sym k.0)
    ∙ sym (one_digit w n b bs)
    ∙ ap (λ j. field_after j n (b ∷ bs)) (sym s)

-- one digit more
pub goes_on : (w k n d : ℕ) (bs after : List ℕ) → k < w → 1 ≤ length bs → after ≡ drop 1 bs → Some d ≡ digit_of (get_or bs 0 0) → field_after (w - (k + 1)) (n * 16 + d) after ≡ field_after (w - k) n bs
goes_on w k n d bs after l h a e = ap (field_after (w - (k + 1)) (n * 16 + d)) a ∙ more_by (w - (k + 1)) n (w - k) d bs (omega arith) (omega arith) e

pub shorter : (w : ℕ) (bs : List ℕ) → length bs < w → field_in w bs ≡ None
unfolding field_in
shorter w bs h = ap (λ b. cond b (number_in (take w bs)) None) (lt-leb w (length bs) h)
