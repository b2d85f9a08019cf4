-- The last activate of a history that obeys is the latest, since cycles rise.
use Rattle.std.proofs.Common.{◌≡◌, ◌<◌, ◌≤◌, Bool, true, false, cond, List, [], ◌∷◌, ◌++◌, reverse, Some, sym, refl, ap, ◌∙◌, subst, arith}
use mathlib.Core.List.{reverse-reverse, reverse-cons}
use Rattle.sheet.specs.declared.accepted.Sheet.{Sheet}
use Rattle.sheet.specs.declared.geometry.Chip.{Chip}
use Rattle.rulebook.specs.declared.command.Command.{Command}
use Rattle.rulebook.specs.declared.command.Kind.TheVariants.{Activate}
use Rattle.rulebook.specs.declared.rule.Rule.TheVariants.{CyclesRise}
use Rattle.rulebook.specs.Kinds.{same_kind}
use Rattle.rulebook.specs.Book.{Every, Of, activates, Obeys}
use Rattle.rulebook.specs.Summary.{Latest, cycle_at}
use Rattle.rulebook.proofs.Lists.{every_map, every_join, every_at, no_element}
use Rattle.rulebook.proofs.Told.{Asks, asks_kind}

-- no activate among some commands
abbrev NoneActive : List Command → Type 0
NoneActive h = Every (λ a. Of Activate a → ⊥) h

none_at : (b : Bool) (y : Command) (ys : List Command) → Asks b (Of Activate y) → cond b (y ∷ activates ys) (activates ys) ≡ [] →
    (activates ys ≡ [] → NoneActive ys) → NoneActive (y ∷ ys)
none_at true y ys is e rest = cc
none_at false y ys is_not e rest = (is_not, rest e)

none_active : (h : List Command) → activates h ≡ [] → NoneActive h
none_active [] e = tt
none_active (y ∷ ys) e = none_at (same_kind y.kind Activate) y ys (asks_kind y.kind Activate) e (none_active ys)

-- a history cut before its last activate
record LastActive (x : Command) (h : List Command) : Type 0 where
  before : List Command
  rest : List Command
  whole : h ≡ before ++ (x ∷ rest)
  is_active : Of Activate x
  none_after : NoneActive rest

one_earlier : (x y : Command) (ys : List Command) → LastActive x ys → LastActive x (y ∷ ys)
one_earlier x y ys l = record {
  before = y ∷ l.before;
  rest = l.rest;
  whole = ap (λ (zs : List Command). y ∷ zs) l.whole;
  is_active = l.is_active;
  none_after = l.none_after;
}

last_at : (b : Bool) (x y : Command) (ys front : List Command) → Asks b (Of Activate y) → cond b (y ∷ activates ys) (activates ys) ≡ front ++ (x ∷ []) →
    ((to : List Command) → activates ys ≡ to ++ (x ∷ []) → LastActive x ys) → LastActive x (y ∷ ys)
last_at true x y ys [] is e further =
    let same : y ≡ x = cc in
    let none : activates ys ≡ [] = cc in
    record { before = []; rest = ys; whole = ap (λ (c : Command). c ∷ ys) same; is_active = subst (Of Activate) same is; none_after = none_active ys none }
last_at true x y ys (f ∷ fs) is e further = one_earlier x y ys (further fs (cc))
last_at false x y ys front is_not e further = one_earlier x y ys (further front e)

last_active : (h front : List Command) (x : Command) → activates h ≡ front ++ (x ∷ []) → LastActive x h
last_active [] front x e = absurd (no_element front x [] e)
last_active (y ∷ ys) front x e = last_at (same_kind y.kind Activate) x y ys front (asks_kind y.kind Activate) e (λ to q. last_active ys to x q)

latest_at : (s : Sheet) (k : Chip) (before : List Command) (x : Command) (rest : List Command) → Obeys s k (before ++ (x ∷ rest)) → Of Activate x → NoneActive rest →
    Latest (Of Activate) (before ++ (x ∷ rest)) (Some x.cycle)
latest_at s k before x rest obeys is none = (
  every_join (λ a. Of Activate a → a.cycle ≤ x.cycle) before (x ∷ rest)
      (every_map {P = λ a. a.cycle < x.cycle} (λ a lt p. omega arith) before (obeys before x rest refl CyclesRise))
      (λ p. omega arith, every_map {P = λ a. Of Activate a → ⊥} (λ a f p. absurd (f p)) rest none),
  λ all. let lt : x.cycle < x.cycle = every_at (λ a. Of Activate a → a.cycle < x.cycle) before x rest all is in omega arith,
)

newest_of : (s : Sheet) (k : Chip) (h back : List Command) → Obeys s k h → back ≡ reverse (activates h) → Latest (Of Activate) h (cycle_at 0 back)
newest_of s k h [] obeys e = none_active h (sym (reverse-reverse (activates h)) ∙ ap reverse (sym e))
newest_of s k h (x ∷ xs) obeys e =
    let l = last_active h (reverse xs) x (sym (reverse-reverse (activates h)) ∙ ap reverse (sym e) ∙ reverse-cons x xs) in
    subst (λ (cs : List Command). Latest (Of Activate) cs (Some x.cycle)) (sym l.whole)
    (latest_at s k l.before x l.rest (subst (λ (cs : List Command). Obeys s k cs) l.whole obeys) l.is_active l.none_after)

pub newest_is : (s : Sheet) (k : Chip) (h : List Command) → Obeys s k h → Latest (Of Activate) h (cycle_at 0 (reverse (activates h)))
newest_is s k h obeys = newest_of s k h (reverse (activates h)) obeys refl
