-- Hexadecimal digits 0 to 9 and A to F, and the number that several stand for.
use Rattle.std.specs.Prelude.{ℕ, zero, suc, ◌+◌, ◌-◌, ◌*◌, ◌/◌, ◌%◌, ◌^◌, cond, ◌&&◌, List, [], ◌∷◌, Some, None, Option, nat_le, nat_lt}

-- the value of a byte as a digit, 255 where it is none: '0' to '9' are 48 to 57, 'A' to 'F' are 65 to 70
unfoldable pub digit_value : ℕ → ℕ
digit_value b = cond (nat_le 48 b && nat_le b 57) (b - 48) (cond (nat_le 65 b && nat_le b 70) (b - 55) 255)

-- the value of a byte as a digit, if it is one
abbrev pub digit_of : ℕ → Option ℕ
digit_of b = cond (nat_le (digit_value b) 15) (Some (digit_value b)) None

-- the number that bytes stand for behind the digits of n, if all are digits
abbrev pub number_after : ℕ → List ℕ → Option ℕ
number_after n [] = Some n
number_after n (b ∷ bs) = cond (nat_le (digit_value b) 15) (number_after (n * 16 + digit_value b) bs) None

-- the number that bytes stand for, the highest digit first, if all are digits
unfoldable pub number_in : List ℕ → Option ℕ
number_in bs = number_after 0 bs

-- the byte that stands for a digit's value
unfoldable pub digit : ℕ → ℕ
digit n = cond (nat_lt n 10) (48 + n) (55 + n)

-- the last w digits of a number, the highest first
unfoldable pub digits : ℕ → ℕ → List ℕ
digits zero n = []
digits (suc w) n = digit (n / 16 ^ w % 16) ∷ digits w n
