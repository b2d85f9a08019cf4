-- The fourth newest activate is the first of the last four, whatever came before them.
use Rattle.std.proofs.Common.{◌≡◌, ℕ, ◌+◌, ◌≤◌, ltb, List, [], ◌∷◌, ◌++◌, reverse, sym, ap, ◌∙◌, arith}
use mathlib.Core.List.{reverse-append, reverse-reverse, reverse_aux-eq}
use Rattle.std.proofs.lemmas.Bool.{ltb-true, ltb-false}
use Rattle.rulebook.specs.declared.command.Command.{Command}
use Rattle.rulebook.specs.Answer.{too_soon}
use Rattle.rulebook.specs.Summary.{cycle_at}
use Rattle.rulebook.proofs.Told.{Told, told_by}

-- the gap to the first of the last four
abbrev pub FourApart : ℕ → ℕ → List Command → Type 0
FourApart gap t acts = (old : List Command) (a₁ a₂ a₃ a₄ : Command) → acts ≡ old ++ (a₁ ∷ a₂ ∷ a₃ ∷ a₄ ∷ []) → a₁.cycle + gap ≤ t

-- fewer than four
few : (gap t : ℕ) (acts back : List Command) → back ≡ reverse acts →
    ((a₁ a₂ a₃ a₄ : Command) (rest : List Command) → back ≡ a₄ ∷ a₃ ∷ a₂ ∷ a₁ ∷ rest → ⊥) → FourApart gap t acts
few gap t acts back e no_four old a₁ a₂ a₃ a₄ whole =
    absurd (no_four a₁ a₂ a₃ a₄ (reverse old) (e ∙ ap reverse whole ∙ reverse-append old (a₁ ∷ a₂ ∷ a₃ ∷ a₄ ∷ [])))

pub told_four : (gap t : ℕ) (acts back : List Command) → back ≡ reverse acts → Told (too_soon (cycle_at 3 back) gap t) (FourApart gap t acts)
told_four gap t acts [] e = few gap t acts [] e (λ a₁ a₂ a₃ a₄ rest q. cc)
told_four gap t acts (x₄ ∷ []) e = few gap t acts (x₄ ∷ []) e (λ a₁ a₂ a₃ a₄ rest q. cc)
told_four gap t acts (x₄ ∷ x₃ ∷ []) e = few gap t acts (x₄ ∷ x₃ ∷ []) e (λ a₁ a₂ a₃ a₄ rest q. cc)
told_four gap t acts (x₄ ∷ x₃ ∷ x₂ ∷ []) e = few gap t acts (x₄ ∷ x₃ ∷ x₂ ∷ []) e (λ a₁ a₂ a₃ a₄ rest q. cc)
told_four gap t acts (x₄ ∷ x₃ ∷ x₂ ∷ x₁ ∷ rest) e =
    told_by (ltb t (x₁.cycle + gap))
    (λ y all. omega (
      arith,
      ltb-true t (x₁.cycle + gap) y,
      all (reverse rest) x₁ x₂ x₃ x₄ (sym (reverse-reverse acts) ∙ ap reverse (sym e) ∙ reverse_aux-eq rest (x₁ ∷ x₂ ∷ x₃ ∷ x₄ ∷ [])),
    ))
    (λ y old a₁ a₂ a₃ a₄ whole.
    let turned : x₄ ∷ x₃ ∷ x₂ ∷ x₁ ∷ rest ≡ a₄ ∷ a₃ ∷ a₂ ∷ a₁ ∷ reverse old = e ∙ ap reverse whole ∙ reverse-append old (a₁ ∷ a₂ ∷ a₃ ∷ a₄ ∷ []) in
    let same : x₁.cycle ≡ a₁.cycle = cc in
    omega (arith, ltb-false t (x₁.cycle + gap) y))
