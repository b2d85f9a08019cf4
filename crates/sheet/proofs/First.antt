-- What it means that no place is found.
use Rattle.std.proofs.Common.{◌≡◌, ℕ, zero, suc, ◌+◌, ◌<◌, Bool, true, false, cond, List, [], ◌∷◌, length, get_or, Some, None, Option, refl, arith}
use Rattle.std.specs.List.{position_from}

-- a search that finds none passes each element, and finds none behind it
pub false_by : (b : Bool) (k : ℕ) (rest : Option ℕ) → cond b (Some k) rest ≡ None → b ≡ false
false_by true k rest e = cc
false_by false k rest e = refl

pub rest_by : (b : Bool) (k : ℕ) (rest : Option ℕ) → cond b (Some k) rest ≡ None → rest ≡ None
rest_by true k rest e = cc
rest_by false k rest e = e

-- where there is no place, no element is such
pub none_such : {X : Type 0} (such : X → Bool) (xs : List X) (k i : ℕ) (d : X) → position_from such k xs ≡ None → i < length xs → such (get_or xs i d) ≡ false
none_such such [] k i d e h = absurd (omega arith)
none_such such (x ∷ xs) k zero d e h = false_by (such x) k (position_from such (k + 1) xs) e
none_such such (x ∷ xs) k (suc i) d e h = none_such such xs (k + 1) i d (rest_by (such x) k (position_from such (k + 1) xs) e) (omega arith)
