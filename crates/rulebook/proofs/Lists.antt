-- Every command of a list is such: parts of a list, and lists that grow at their end or are cut.
use Rattle.std.proofs.Common.{◌≡◌, ◌⊎◌, List, [], ◌∷◌, ◌++◌, refl, ap, inl, inr}
use Rattle.rulebook.specs.declared.command.Command.{Command}
use Rattle.rulebook.specs.Book.{Every}

pub every_map : {P Q : Command → Type 0} → ((a : Command) → P a → Q a) → (xs : List Command) → Every P xs → Every Q xs
every_map f [] e = tt
every_map f (x ∷ xs) e = (f x e.0, every_map f xs e.1)

pub every_both : {P Q R : Command → Type 0} → ((a : Command) → P a → Q a → R a) → (xs : List Command) → Every P xs → Every Q xs → Every R xs
every_both f [] d e = tt
every_both f (x ∷ xs) d e = (f x d.0 e.0, every_both f xs d.1 e.1)

pub every_join : (P : Command → Type 0) → (xs ys : List Command) → Every P xs → Every P ys → Every P (xs ++ ys)
every_join P [] ys d e = e
every_join P (x ∷ xs) ys d e = (d.0, every_join P xs ys d.1 e)

pub every_last : (P : Command → Type 0) → (xs : List Command) (c : Command) → Every P xs → P c → Every P (xs ++ (c ∷ []))
every_last P xs c e p = every_join P xs (c ∷ []) e (p, tt)

pub every_front : (P : Command → Type 0) → (xs ys : List Command) → Every P (xs ++ ys) → Every P xs
every_front P [] ys e = tt
every_front P (x ∷ xs) ys e = (e.0, every_front P xs ys e.1)

pub every_at : (P : Command → Type 0) → (xs : List Command) (c : Command) (ys : List Command) → Every P (xs ++ (c ∷ ys)) → P c
every_at P [] c ys e = e.0
every_at P (x ∷ xs) c ys e = every_at P xs c ys e.1

pub every_back : (P : Command → Type 0) → (xs : List Command) (c : Command) (ys : List Command) → Every P (xs ++ (c ∷ ys)) → Every P ys
every_back P [] c ys e = e.1
every_back P (x ∷ xs) c ys e = every_back P xs c ys e.1

-- what holds of a command wherever the list is cut before it holds of every command
pub every_cut : {P : Command → Type 0} → (xs : List Command) → ((before : List Command) (a : Command) (rest : List Command) → xs ≡ before ++ (a ∷ rest) → P a) → Every P xs
every_cut [] f = tt
every_cut (x ∷ xs) f = (f [] x xs refl, every_cut xs (λ before a rest e. f (x ∷ before) a rest (ap (λ ys. x ∷ ys) e)))

-- a list cut before a command that is such
pub record Cut (P : Command → Type 0) (xs : List Command) : Type 0 where
  pub before : List Command
  pub found : Command
  pub rest : List Command
  pub whole : xs ≡ before ++ (found ∷ rest)
  pub such : P found

-- where each command is of one of two sorts, one is of the first, or every one of the second
pub first_or_every : (P Q : Command → Type 0) → ((a : Command) → P a ⊎ Q a) → (xs : List Command) → Cut P xs ⊎ Every Q xs
first_or_every P Q f [] = inr tt
first_or_every P Q f (x ∷ xs) = elim (f x) [
  | inl p ↦ inl (record { before = []; found = x; rest = xs; whole = refl; such = p })
  | inr q ↦ elim (first_or_every P Q f xs) [
    | inl c ↦ inl (record { before = x ∷ c.before; found = c.found; rest = c.rest; whole = ap (λ ys. x ∷ ys) c.whole; such = c.such })
    | inr e ↦ inr (q, e)
  ]
]

-- the empty list holds nothing
pub no_element : {X : Type 0} (xs : List X) (y : X) (ys : List X) → [] ≡ xs ++ (y ∷ ys) → ⊥
no_element [] y ys e = cc
no_element (x ∷ xs) y ys e = cc

-- a list with one more at its end, cut before an element: at that last one, or inside the list
pub last_cut : {X : Type 0} (xs : List X) (x : X) (before : List X) (y : X) (rest : List X) → xs ++ (x ∷ []) ≡ before ++ (y ∷ rest) →
    ((xs ≡ before) × (x ≡ y)) ⊎ ((more : List X) × (xs ≡ before ++ (y ∷ more)))
last_cut [] x [] y rest e = inl (refl, cc)
last_cut [] x (b ∷ before) y rest e = absurd (no_element before y rest (cc))
last_cut (a ∷ xs) x [] y rest e = inr (xs, cc)
last_cut (a ∷ xs) x (b ∷ before) y rest e =
    let h : a ≡ b = cc in
    let t : xs ++ (x ∷ []) ≡ before ++ (y ∷ rest) = cc in
    elim (last_cut xs x before y rest t) [
      | inl p ↦ let q = p.0 in inl (cc, p.1)
      | inr p ↦ let q = p.1 in inr (p.0, cc)
    ]
