-- What an answer says of how it came about.
use Rattle.std.proofs.Common.{◌≡◌, ℕ, Bool, true, false, cond, Some, None, Ok, Option, refl}
use Rattle.sheet.specs.Making.{refused, unless_at}

none_then : (number : ℕ) (o : Option ℕ) (n count : ℕ) → Ok count ≡ unless_at number o (Ok n) → (o ≡ None) × (count ≡ n)
none_then number None n count e = (refl, cc)
none_then number (Some k) n count e = cc

-- a count is answered only where enough was lent and nothing was found amiss
pub counted : (number : ℕ) (o : Option ℕ) (n count : ℕ) (b : Bool) → Ok count ≡ cond b (refused 15) (unless_at number o (Ok n)) → (o ≡ None) × (count ≡ n)
counted number o n count true e = cc
counted number o n count false e = none_then number o n count e
