-- Rounding up gives the least count that is long enough.
use Rattle.std.proofs.Common.{◌≡◌, ℕ, zero, suc, ◌+◌, ◌*◌, ◌/◌, ◌%◌, ◌<◌, ◌≤◌, min, mul-le-mul_right, mod-lt, add-mul, lt_of_mul-lt-mul_right, one-mul, div-add-mod', le_of_mul-le-mul_right, arith}
use Rattle.sheet.specs.Units.{rounded_up}

-- a quotient q with remainder r, and one more where something remains
lasts_at : (q r p n : ℕ) → r < p → n ≡ q + min 1 r → q * p + r ≤ n * p
lasts_at q zero p n h e = omega (arith, mul-le-mul_right {m = q} {n = n} p (omega arith))
lasts_at q (suc r) p n h e = omega (arith, mul-le-mul_right {m = q + 1} {n = n} p (omega arith), add-mul q 1 p, one-mul p)

least_at : (q r p n : ℕ) → 1 ≤ p → q * p + r ≤ n * p → q + min 1 r ≤ n
least_at q zero p n some h = omega (arith, le_of_mul-le-mul_right {m = q} {n = n} {k = p} (omega arith) some)
least_at q (suc r) p n some h = omega (arith, lt_of_mul-lt-mul_right p {m = q} {n = n} (omega arith))

pub lasts : (length period count : ℕ) → 1 ≤ period → count ≡ rounded_up length period → length ≤ count * period
lasts length period count some e =
    omega (arith, lasts_at (length / period) (length % period) period count (mod-lt length some) e, div-add-mod' length period)

pub least : (length period count n : ℕ) → 1 ≤ period → count ≡ rounded_up length period → length ≤ n * period → count ≤ n
least length period count n some e h =
    omega (arith, least_at (length / period) (length % period) period n some (omega (arith, div-add-mod' length period)))
