-- Where the newest activate of all is not the bank's own it is the latest of the other banks; where it is, the other banks' activates lie far enough back, since the history obeys.
use Rattle.std.proofs.Common.{◌≡◌, ℕ, ◌+◌, ◌<◌, ◌≤◌, Bool, true, false, cond, eqb, ◌⊎◌, List, ◌∷◌, ◌++◌, Some, None, Option, sym, refl, ◌∙◌, subst, inl, inr, arith}
use Rattle.std.proofs.lemmas.Bool.{eqb-true, eqb-false, cases_eq, cases_lt}
use Rattle.sheet.specs.declared.accepted.Sheet.{Sheet}
use Rattle.sheet.specs.declared.geometry.Chip.{Chip}
use Rattle.rulebook.specs.declared.command.Command.{Command}
use Rattle.rulebook.specs.declared.command.Kind.TheVariants.{Activate}
use Rattle.rulebook.specs.declared.rule.Rule.TheVariants.{ActivateActivateOther}
use Rattle.rulebook.specs.Kinds.{same_kind}
use Rattle.rulebook.specs.Book.{Every, Of, At, Elsewhere, Obeys}
use Rattle.rulebook.specs.Answer.{too_soon, newest_elsewhere}
use Rattle.rulebook.specs.Summary.{Latest}
use Rattle.rulebook.proofs.Lists.{every_map, every_both, every_join, every_at, every_back, first_or_every}
use Rattle.rulebook.proofs.Told.{Told, Asks, told_gap, asks_kind}
use Rattle.rulebook.proofs.Obeying.{rest_rises}

-- the newest of all is later than the bank's own latest, or the bank has none
latest_other : (h : List Command) (i e : ℕ) → Latest (Of Activate) h (Some e) → Every (λ a. At Activate i a → a.cycle < e) h → Latest (Elsewhere Activate i) h (Some e)
latest_other h i e newest own = (
  every_map {P = λ a. Of Activate a → a.cycle ≤ e} (λ a f p. f p.0) h newest.0,
  λ others. newest.1 (every_both {P = λ a. At Activate i a → a.cycle < e} {Q = λ a. Elsewhere Activate i a → a.cycle < e}
      (λ a f g p. elim (cases_eq a.bank i) [ inl q ↦ f (p, q) | inr q ↦ g (p, q) ]) h own others),
)

-- the bank's own latest is no later than the newest of all
own_within : (h : List Command) (i e o : ℕ) → Latest (Of Activate) h (Some e) → Latest (At Activate i) h (Some o) → o ≤ e
own_within h i e o newest own = elim (cases_lt e o) [
  | inl lt ↦ absurd (own.1 (every_map {P = λ a. Of Activate a → a.cycle ≤ e} (λ a f p. omega (arith, f p.0, lt)) h newest.0))
  | inr le ↦ le
]

-- an activate of the bank, in a cycle or later
abbrev Own : ℕ → ℕ → Command → Type 0
Own i e a = At Activate i a × (e ≤ a.cycle)

own_or_not : (i e : ℕ) (a : Command) (b : Bool) → Asks b (Of Activate a) → Own i e a ⊎ (At Activate i a → a.cycle < e)
own_or_not i e a false no_activate = inr (λ p. absurd (no_activate p.0))
own_or_not i e a true activate = elim (cases_eq a.bank i) [
  | inl here ↦ elim (cases_lt a.cycle e) [ inl lt ↦ inr (λ p. lt) | inr le ↦ inl ((activate, here), le) ]
  | inr there ↦ inr (λ p. absurd (there p.1))
]

-- the newest of all is the bank's own: the others came before it, by the gap that the history kept
own_newest_at : (s : Sheet) (k : Chip) (i e t : ℕ) (before : List Command) (x : Command) (rest : List Command) → Obeys s k (before ++ (x ∷ rest)) →
    Own i e x → x.cycle < t → Every (λ a. Of Activate a → a.cycle ≤ e) rest →
    Every (λ a. Elsewhere Activate i a → a.cycle + s.rrd.0 ≤ t) (before ++ (x ∷ rest))
own_newest_at s k i e t before x rest obeys own lt newest =
    let here : x.bank ≡ i = own.0.1 in
    every_join (λ a. Elsewhere Activate i a → a.cycle + s.rrd.0 ≤ t) before (x ∷ rest)
    (every_map {P = λ a. Elsewhere Activate x.bank a → a.cycle + s.rrd.0 ≤ x.cycle}
    (λ a f p. omega (arith, f (p.0, λ q. p.1 (q ∙ here)), lt)) before (obeys before x rest refl ActivateActivateOther own.0.0)) (
      λ p. absurd (p.1 here),
      every_both {P = λ a. x.cycle < a.cycle} {Q = λ a. Of Activate a → a.cycle ≤ e}
          (λ a later f p. absurd (omega (arith, f p.0, later, own.1))) rest (rest_rises s k before x rest obeys) newest,
    )

own_newest : (s : Sheet) (k : Chip) (h : List Command) (i e t : ℕ) → Obeys s k h → Every (λ a. a.cycle < t) h → Latest (Of Activate) h (Some e) →
    Latest (At Activate i) h (Some e) → Every (λ a. Elsewhere Activate i a → a.cycle + s.rrd.0 ≤ t) h
own_newest s k h i e t obeys rises newest own =
    elim (first_or_every (Own i e) (λ a. At Activate i a → a.cycle < e) (λ a. own_or_not i e a (same_kind a.kind Activate) (asks_kind a.kind Activate)) h) [
      | inl c ↦
          let whole = c.whole in
          let all = subst (λ (xs : List Command). Every (λ a. Of Activate a → a.cycle ≤ e) xs) whole newest.0 in
          let low = subst (λ (xs : List Command). Every (λ a. a.cycle < t) xs) whole rises in
          subst (λ (xs : List Command). Every (λ a. Elsewhere Activate i a → a.cycle + s.rrd.0 ≤ t) xs) (sym whole)
          (own_newest_at s k i e t c.before c.found c.rest (subst (λ (xs : List Command). Obeys s k xs) whole obeys) c.such
          (every_at (λ a. a.cycle < t) c.before c.found c.rest low)
          (every_back (λ a. Of Activate a → a.cycle ≤ e) c.before c.found c.rest all))
      | inr no_own ↦ absurd (own.1 no_own)
    ]

both_some : (s : Sheet) (k : Chip) (h : List Command) (i e o t : ℕ) (b : Bool) → eqb e o ≡ b → Obeys s k h → Every (λ a. a.cycle < t) h →
    Latest (Of Activate) h (Some e) → Latest (At Activate i) h (Some o) →
    Told (too_soon (cond b None (Some e)) s.rrd.0 t) (Every (λ a. Elsewhere Activate i a → a.cycle + s.rrd.0 ≤ t) h)
both_some s k h i e o t true y obeys rises newest own =
    own_newest s k h i e t obeys rises newest (subst (λ (n : ℕ). Latest (At Activate i) h (Some n)) (sym (eqb-true e o y)) own)
both_some s k h i e o t false y obeys rises newest own =
    let apart : o < e = let le = own_within h i e o newest own in let ne = eqb-false e o y in omega arith in
    told_gap (Elsewhere Activate i) h (Some e) s.rrd.0 t
    (latest_other h i e newest (every_map {P = λ a. At Activate i a → a.cycle ≤ o} (λ a f p. omega (arith, f p, apart)) h own.0))

pub told_other : (s : Sheet) (k : Chip) (h : List Command) (i t : ℕ) (newest own : Option ℕ) → Obeys s k h → Every (λ a. a.cycle < t) h →
    Latest (Of Activate) h newest → Latest (At Activate i) h own →
    Told (too_soon (newest_elsewhere newest own) s.rrd.0 t) (Every (λ a. Elsewhere Activate i a → a.cycle + s.rrd.0 ≤ t) h)
told_other s k h i t None own obeys rises is_newest is_own = every_map {P = λ a. Of Activate a → ⊥} (λ a f p. absurd (f p.0)) h is_newest
told_other s k h i t (Some e) None obeys rises is_newest is_own =
    told_gap (Elsewhere Activate i) h (Some e) s.rrd.0 t
    (latest_other h i e is_newest (every_map {P = λ a. At Activate i a → ⊥} (λ a f p. absurd (f p)) h is_own))
told_other s k h i t (Some e) (Some o) obeys rises is_newest is_own = both_some s k h i e o t (eqb e o) refl obeys rises is_newest is_own
