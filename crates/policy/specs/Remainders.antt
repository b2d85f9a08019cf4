-- Remainders of a division.
use Rattle.std.specs.Prelude.{◌≡◌, ℕ, ◌+◌, ◌*◌, ◌/◌, ◌%◌, ◌<◌}
use Rattle.std.proofs.Common.{ap, inl, inr, arith, mul-suc, mul-le-mul_left}
use Rattle.std.proofs.Math.Nat.{div-add-mod}
use Rattle.std.proofs.lemmas.Bool.{cases_order}

-- numbers below n that leave one remainder once the same is added to both are equal: the quotients are, since the sums lie less than n apart
pub same_remainder : (n a b r : ℕ) → a < n → b < n → (a + r) % n ≡ (b + r) % n → a ≡ b
same_remainder n a b r h l e =
    let q = (a + r) / n in
    let p = (b + r) / n in
    elim (cases_order q p) [
      | inl i ↦ omega (arith, div-add-mod (a + r) n, div-add-mod (b + r) n, ap (λ k. n * k) i)
      | inr o ↦ elim o [
        | inl u ↦ absurd (omega (arith, div-add-mod (a + r) n, div-add-mod (b + r) n, mul-suc n q, mul-le-mul_left n u))
        | inr u ↦ absurd (omega (arith, div-add-mod (a + r) n, div-add-mod (b + r) n, mul-suc n p, mul-le-mul_left n u))
      ]
    ]
