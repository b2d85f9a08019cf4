-- Fields of a line, from the left.
use Rattle.std.specs.Prelude.{◌≡◌, ℕ, ◌^◌, ◌<◌, Bool, false, cond, List, [], ◌∷◌, length, take, drop, Some, None, Option, MatchOption, ◌==◌, nat_le}
use Rattle.std.specs.Borrow.{Bor}
use Rattle.trace.specs.Digits.{number_in}

-- what follows of a value, if there is one
abbrev pub and_then : {X Y : Type 0} → Option Y → (Y → Option X) → Option X
and_then (Some y) f = f y
and_then None f = None

-- the first w bytes as a number, if there are so many and all are digits
unfoldable pub field_in : ℕ → List ℕ → Option ℕ
field_in w bs = cond (nat_le w (length bs)) (number_in (take w bs)) None

-- a field of w digits, and what follows of it and of the bytes behind it
abbrev pub with_field : {X : Type 0} → ℕ → List ℕ → (ℕ → List ℕ → Option X) → Option X
with_field w bs f = and_then (field_in w bs) (λ n. f n (drop w bs))

-- an answer of the first field, which is a number of so many digits, with the bytes behind it
abbrev pub Reads : ℕ → List ℕ → Option (ℕ × Bor (List ℕ)) → Type 0
Reads w bs r = MatchOption r (field_in w bs ≡ None) (λ p. (field_in w bs ≡ Some p.0) × (p.1.now ≡ drop w bs) × (p.0 < 16 ^ w))

-- an answer of something found at the front of a line, with the bytes behind it; none where it is not found
abbrev pub ReadsThen : {X : Type 0} → Option X → List ℕ → Option (X × Bor (List ℕ)) → Type 0
ReadsThen found behind r = MatchOption r (found ≡ None) (λ p. (found ≡ Some p.0) × (p.1.now ≡ behind))

-- a line feed and nothing else
abbrev pub is_feed : List ℕ → Bool
is_feed [] = false
is_feed (b ∷ []) = b == 10
is_feed (b ∷ c ∷ cs) = false
