-- The timings of a sheet line, read one after the other.
use Rattle.std.proofs.Common.{◌≡◌, ℕ, zero, suc, ◌+◌, ◌-◌, ◌<◌, List, [], ◌∷◌, ◌++◌, length, take, drop, set, Some, None, Option, sym, refl, ap, ◌∙◌, append_assoc, arith}
use Rattle.std.proofs.lemmas.List.{append-nil, take_all, take_more_set}
use Rattle.sheet.specs.declared.given.Timing.{Timing}
use Rattle.trace.specs.Fields.{and_then}
use Rattle.trace.specs.SheetLine.{timing_in, timings_in}

-- what was read before, and behind it the rest, if it can be read
abbrev pub behind : List Timing → Option (List Timing) → Option (List Timing)
behind front None = None
behind front (Some rest) = Some (front ++ rest)

-- one timing in front of the rest
abbrev pub in_front : Timing → Option (List Timing) → Option (List Timing)
in_front t rest = and_then rest (λ ts. Some (t ∷ ts))

behind_more : (front : List Timing) (t : Timing) (rest : Option (List Timing)) → behind (front ++ t ∷ []) rest ≡ behind front (in_front t rest)
behind_more front t None = refl
behind_more front t (Some rest) = ap Some (append_assoc front (t ∷ []) rest)

unread : (n : ℕ) (bs : List ℕ) → timing_in bs ≡ None → timings_in (suc n) bs ≡ None
unfolding timings_in
unread n bs e = ap (λ o. and_then o (λ t. in_front t (timings_in n (drop 8 bs)))) e

one_read : (n : ℕ) (bs : List ℕ) (t : Timing) → timing_in bs ≡ Some t → timings_in (suc n) bs ≡ in_front t (timings_in n (drop 8 bs))
unfolding timings_in
one_read n bs t e = ap (λ o. and_then o (λ t. in_front t (timings_in n (drop 8 bs)))) e

pub fails : (front : List Timing) (n : ℕ) (bs : List ℕ) → 0 < n → timing_in bs ≡ None → behind front (timings_in n bs) ≡ None
fails front zero bs h e = absurd (omega arith)
fails front (suc n) bs h e = ap (behind front) (unread n bs e)

pub goes_on : (ts : List Timing) (k n m : ℕ) (bs after : List ℕ) (t : Timing) → k < length ts → n ≡ suc m → timing_in bs ≡ Some t → after ≡ drop 8 bs →
    behind (take (k + 1) (set ts k t)) (timings_in m after) ≡ behind (take k ts) (timings_in n bs)
goes_on ts k n m bs after t h s e a =
    (λ i. behind (take_more_set ts k t h i) (timings_in m (a i)))
    ∙ behind_more (take k ts) t (timings_in m (drop 8 bs))
    ∙ ap (behind (take k ts)) (sym (ap (λ j. timings_in j bs) s ∙ one_read m bs t e))

pub ends : (ts : List Timing) (k : ℕ) (bs : List ℕ) → k ≡ 13 → length ts ≡ 13 → behind (take k ts) (timings_in (13 - k) bs) ≡ Some ts
unfolding timings_in
ends ts k bs e h =
    ap (λ j. behind (take j ts) (timings_in (13 - j) bs)) e ∙ ap Some (append-nil (take 13 ts) ∙ take_all 13 ts (omega arith))
