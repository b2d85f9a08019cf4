-- A test that tells of a fact: where it is true the fact is false, and where it is false the fact holds.
use Rattle.std.proofs.Common.{◌≡◌, ℕ, ◌+◌, ◌<◌, ◌≤◌, Bool, true, false, not, ◌&&◌, ◌||◌, eqb, ltb, leb, ◌≢◌, List, is_some, Some, None, Option, sym, refl, ap, inl, inr, arith}
use Rattle.std.proofs.lemmas.Bool.{ltb-true, ltb-false, leb-true, leb-false, eqb-true, eqb-false, or_cases, or_parts}
use Rattle.rulebook.specs.declared.command.Command.{Command}
use Rattle.rulebook.specs.declared.command.Kind.{Kind}
use Rattle.rulebook.specs.declared.command.Kind.TheVariants.{Idle, Activate, Precharge, Read, Write}
use Rattle.rulebook.specs.Kinds.{kind_number, kind_of, same_kind}
use Rattle.rulebook.specs.Book.{Every, Column}
use Rattle.rulebook.specs.Answer.{too_soon, open_at, is_column}
use Rattle.rulebook.specs.Summary.{Latest}
use Rattle.rulebook.proofs.Lists.{every_map}

abbrev pub Told : Bool → Type 0 → Type 0
Told true P = P → ⊥
Told false P = P

-- a test that asks for a fact: where it is true the fact holds, and where it is false the fact is false
abbrev pub Asks : Bool → Type 0 → Type 0
Asks true P = P
Asks false P = P → ⊥

pub told_by : (b : Bool) {P : Type 0} → (b ≡ true → P → ⊥) → (b ≡ false → P) → Told b P
told_by true f g = f refl
told_by false f g = g refl

pub asks_by : (b : Bool) {P : Type 0} → (b ≡ true → P) → (b ≡ false → P → ⊥) → Asks b P
asks_by true f g = f refl
asks_by false f g = g refl

pub told_map : (b : Bool) {P Q : Type 0} → (P → Q) → (Q → P) → Told b P → Told b Q
told_map true f g t = λ q. t (g q)
told_map false f g t = f t

pub asks_map : (b : Bool) {P Q : Type 0} → (P → Q) → (Q → P) → Asks b P → Asks b Q
asks_map true f g t = f t
asks_map false f g t = λ q. t (g q)

-- a rule that speaks only of some commands
pub told_when : (g t : Bool) {G : Type 0} (P : Type 0) → Asks g G → (G → Told t P) → Told (g && t) (G → P)
told_when true true P on f = λ p. f on (p on)
told_when true false P on f = λ _. f on
told_when false t P on f = λ g. absurd (on g)

-- a gap from the latest command of a sort is a gap from all of them
pub told_gap : (P : Command → Type 0) (h : List Command) (o : Option ℕ) (gap cycle : ℕ) → Latest P h o → Told (too_soon o gap cycle) (Every (λ a. P a → a.cycle + gap ≤ cycle) h)
told_gap P h None gap cycle l = every_map {P = λ a. P a → ⊥} (λ a f p. absurd (f p)) h l
told_gap P h (Some e) gap cycle l =
    told_by (ltb cycle (e + gap))
    (λ y all. l.1 (every_map {P = λ a. P a → a.cycle + gap ≤ cycle} (λ a f p. omega (arith, f p, ltb-true cycle (e + gap) y)) h all))
    (λ y. every_map {P = λ a. P a → a.cycle ≤ e} (λ a f p. omega (arith, f p, ltb-false cycle (e + gap) y)) h l.0)

-- the same bank open or closed, in the record and after the history
pub told_closed : (o p : Option ℕ) → o ≡ p → Told (is_some o) (p ≡ None)
told_closed None p e = sym e
told_closed (Some r) p e = λ q. cc

pub told_open : (o p : Option ℕ) → o ≡ p → Told (not (is_some o)) (p ≢ None)
told_open None p e = λ f. f (sym e)
told_open (Some r) p e = λ q. cc

told_not : (b : Bool) {P : Type 0} → (b ≡ true → P) → (b ≡ false → P → ⊥) → Told (not b) P
told_not true f g = f refl
told_not false f g = g refl

pub told_open_at : (o p : Option ℕ) (row : ℕ) → o ≡ p → Told (not (open_at o row)) (p ≡ Some row)
told_open_at None p row e = λ q. cc
told_open_at (Some r) p row e = told_not (eqb r row) (λ y. let q = eqb-true r row y in cc) (λ y f. eqb-false r row y (cc))

-- three sizes, one of which is passed, or none
pub told_sizes : (a b c i j k : ℕ) → Told (leb a i || (leb b j || leb c k)) ((i < a) × (j < b) × (k < c))
told_sizes a b c i j k =
    told_by (leb a i || (leb b j || leb c k))
    (λ y p. elim (or_cases (leb a i) (leb b j || leb c k) y) [
      | inl q ↦ omega (arith, leb-true a i q, p.0)
      | inr q ↦ elim (or_cases (leb b j) (leb c k) q) [
        | inl q₁ ↦ omega (arith, leb-true b j q₁, p.1)
        | inr q₁ ↦ omega (arith, leb-true c k q₁, p.2)
      ]
    ])
    (λ y.
    let q = or_parts (leb a i) (leb b j || leb c k) y in
    let q₁ = or_parts (leb b j) (leb c k) q.1 in
    (leb-false a i q.0, leb-false b j q₁.0, leb-false c k q₁.1))

-- the test for two kinds to be the same, and for a column command
back : (d : Kind) → kind_of (kind_number d) ≡ Some d
back Idle = refl
back Activate = refl
back Precharge = refl
back Read = refl
back Write = refl

pub asks_kind : (d e : Kind) → Asks (same_kind d e) (d ≡ e)
asks_kind d e =
    asks_by (same_kind d e)
    (λ y. let q = ap kind_of (eqb-true (kind_number d) (kind_number e) y) in cc (back d, back e))
    (λ y p. eqb-false (kind_number d) (kind_number e) y (ap kind_number p))

pub asks_column : (d : Kind) → Asks (is_column d) (Column d)
asks_column Idle = λ p. p
asks_column Activate = λ p. p
asks_column Precharge = λ p. p
asks_column Read = tt
asks_column Write = tt
