-- Traces that obey: their front, and one more command at their end.
use Rattle.std.proofs.Common.{◌<◌, List, [], ◌∷◌, ◌++◌, sym, refl, ap, ◌∙◌, subst, inl, inr, append_assoc}
use Rattle.sheet.specs.declared.accepted.Sheet.{Sheet}
use Rattle.sheet.specs.declared.geometry.Chip.{Chip}
use Rattle.rulebook.specs.declared.command.Command.{Command}
use Rattle.rulebook.specs.declared.rule.Rule.TheVariants.{CyclesRise}
use Rattle.rulebook.specs.Book.{Every, Holds, Lawful, Obeys}
use Rattle.rulebook.proofs.Lists.{every_cut, every_at, no_element, last_cut}

pub nothing_obeys : (s : Sheet) (k : Chip) → Obeys s k []
nothing_obeys s k before c rest e r = absurd (no_element before c rest e)

pub front_obeys : (s : Sheet) (k : Chip) (xs ys : List Command) → Obeys s k (xs ++ ys) → Obeys s k xs
front_obeys s k xs ys obeys before c rest e =
    obeys before c (rest ++ ys) (ap (λ zs. zs ++ ys) e ∙ append_assoc before (c ∷ rest) ys)

-- a lawful command at the end keeps the trace within the rules
pub longer_obeys : (s : Sheet) (k : Chip) (h : List Command) (c : Command) → Obeys s k h → Lawful s k h c → Obeys s k (h ++ (c ∷ []))
longer_obeys s k h c obeys lawful before d rest e r = elim (last_cut h c before d rest e) [
  | inl p ↦ subst (λ (b : List Command). Holds s k r b d) p.0 (subst (λ (x : Command). Holds s k r h x) p.1 (lawful r))
  | inr p ↦ obeys before d p.0 p.1 r
]

pub last_lawful : (s : Sheet) (k : Chip) (h : List Command) (c : Command) → Obeys s k (h ++ (c ∷ [])) → Lawful s k h c
last_lawful s k h c obeys r = obeys h c [] refl r

-- what comes after a command has a later cycle
pub rest_rises : (s : Sheet) (k : Chip) (before : List Command) (x : Command) (rest : List Command) → Obeys s k (before ++ (x ∷ rest)) → Every (λ a. x.cycle < a.cycle) rest
rest_rises s k before x rest obeys =
    every_cut {P = λ a. x.cycle < a.cycle} rest (λ between a after e.
    every_at (λ b. b.cycle < a.cycle) before x between
    (obeys (before ++ (x ∷ between)) a after
    (ap (λ zs. before ++ (x ∷ zs)) e ∙ sym (append_assoc before (x ∷ between) (a ∷ after)))
    CyclesRise))
