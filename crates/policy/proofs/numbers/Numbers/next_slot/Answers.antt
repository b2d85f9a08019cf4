use Rattle.std.proofs.Common.{◌≡◌, ℕ, ◌+◌, ◌-◌, ◌*◌, ◌/◌, ◌%◌, ◌≤◌, min, sym, ap, ◌∙◌, arith}
use Rattle.std.proofs.lemmas.Grind.{div_ceil_times}
use Rattle.std.proofs.lemmas.Nat.{div-mul-add}
use Rattle.policy.proofs.numbers.Numbers.next_slot.Goals as goal

-- a quotient rounded up is that of a sum with one less than the divisor
rounded_up : (a w : ℕ) → 1 ≤ w → a / w + min 1 (a % w) ≡ (a + (w - 1)) / w
rounded_up a w h =
    let k = a / w + min 1 (a % w) in
    let t = div_ceil_times a w h in
    let rest : ℕ = (a + (w - 1)) - k * w in
    sym (ap (λ (x : ℕ). x / w) (omega (arith, t.0, t.1)) ∙ div-mul-add k w rest (omega (arith, t.0, t.1)))

pub returns-clause-value : goal.returns-clause-value
returns-clause-value c =
    let span = c.args.self.span in
    let up = rounded_up (c.args.clock - 1) span (omega (arith, c.args.self.span_in)) in
    cc
