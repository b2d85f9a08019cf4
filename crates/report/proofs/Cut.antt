-- An input cut behind its sheet line.
use Rattle.std.proofs.Common.{◌≡◌, ℕ, ◌<◌, List, [], take, drop, length, Some, None, MatchOption, Option, unwrap_or, sym, ap, ◌∙◌, arith}
use Rattle.std.specs.Borrow.{Bor}
use Rattle.std.specs.List.{IsSplitAt}
use Rattle.std.proofs.lemmas.List.{take_all, drop_all}

-- both parts, where a list that is too short is all of the first
pub parts_or : (n : ℕ) (xs : List ℕ) (o : Option (Bor (List ℕ) × Bor (List ℕ))) (whole p : Bor (List ℕ) × Bor (List ℕ)) →
    MatchOption o (length xs < n) (λ q. IsSplitAt xs n q.0.now q.1.now) → p ≡ unwrap_or o whole → whole.0.now ≡ xs → whole.1.now ≡ [] → (p.0.now ≡ take n xs) × (p.1.now ≡ drop n xs)
parts_or n xs None whole p short e first none = (
  ap (λ (q : Bor (List ℕ) × Bor (List ℕ)). q.0.now) e ∙ first ∙ sym (take_all n xs (omega arith)),
  ap (λ (q : Bor (List ℕ) × Bor (List ℕ)). q.1.now) e ∙ none ∙ sym (drop_all n xs (omega arith)),
)
parts_or n xs (Some q) whole p cut e first none = (
  ap (λ (r : Bor (List ℕ) × Bor (List ℕ)). r.0.now) e ∙ cut.1,
  ap (λ (r : Bor (List ℕ) × Bor (List ℕ)). r.1.now) e ∙ cut.2,
)
