-- The test for the sort from which a rule counts asks for that sort.
use Rattle.std.proofs.Common.{◌≡◌, ℕ, Bool, true, false, not, ◌&&◌, eqb, ◌≢◌}
use Rattle.std.proofs.lemmas.Bool.{eqb-true, eqb-false}
use Rattle.rulebook.specs.Book.{At, Elsewhere}
use Rattle.rulebook.specs.Kinds.{same_kind}
use Rattle.rulebook.specs.declared.command.Command.{Command}
use Rattle.rulebook.specs.declared.command.Kind.{Kind}
use Rattle.rulebook.specs.declared.command.Kind.TheVariants.{Activate, Precharge, Read, Write}
use Rattle.rulebook.specs.declared.rule.Rule.{Rule}
use Rattle.rulebook.specs.declared.rule.Rule.TheVariants.{CyclesRise, InsideChip, ActivateClosed, PrechargeOpen, ColumnOpen, ActivateActivateSame, ActivateActivateOther, ActivatePrecharge, ActivateColumn, PrechargeActivate, ColumnColumn, ReadWrite, WriteRead, ReadPrecharge, WritePrecharge, FourActivates}
use Rattle.rulebook.proofs.Told.{Asks, asks_by, asks_kind}
use Rattle.report.specs.Gaps.{is_at, is_elsewhere, counts_from, From}

asks_and : (x y : Bool) (P Q : Type 0) → Asks x P → Asks y Q → Asks (x && y) (P × Q)
asks_and true true P Q p q = (p, q)
asks_and true false P Q p q = λ both. q both.1
asks_and false y P Q p q = λ both. p both.0

asks_not : (x : Bool) (P : Type 0) → Asks x P → Asks (not x) (P → ⊥)
asks_not true P p = λ f. f p
asks_not false P p = p

asks_same : (i j : ℕ) → Asks (eqb i j) (i ≡ j)
asks_same i j = asks_by (eqb i j) (eqb-true i j) (eqb-false i j)

asks_at : (d : Kind) (i : ℕ) (a : Command) → Asks (is_at d i a) (At d i a)
asks_at d i a = asks_and (same_kind a.kind d) (eqb a.bank i) (a.kind ≡ d) (a.bank ≡ i) (asks_kind a.kind d) (asks_same a.bank i)

asks_elsewhere : (d : Kind) (i : ℕ) (a : Command) → Asks (is_elsewhere d i a) (Elsewhere d i a)
asks_elsewhere d i a =
    asks_and (same_kind a.kind d) (not (eqb a.bank i)) (a.kind ≡ d) (a.bank ≢ i) (asks_kind a.kind d) (asks_not (eqb a.bank i) (a.bank ≡ i) (asks_same a.bank i))

pub asks_from : (rule : Rule) (c a : Command) → Asks (counts_from rule c a) (From rule c a)
asks_from CyclesRise c a = λ p. p
asks_from InsideChip c a = λ p. p
asks_from ActivateClosed c a = λ p. p
asks_from PrechargeOpen c a = λ p. p
asks_from ColumnOpen c a = λ p. p
asks_from ActivateActivateSame c a = asks_at Activate c.bank a
asks_from ActivateActivateOther c a = asks_elsewhere Activate c.bank a
asks_from ActivatePrecharge c a = asks_at Activate c.bank a
asks_from ActivateColumn c a = asks_at Activate c.bank a
asks_from PrechargeActivate c a = asks_at Precharge c.bank a
asks_from ColumnColumn c a = asks_kind a.kind c.kind
asks_from ReadWrite c a = asks_kind a.kind Read
asks_from WriteRead c a = asks_kind a.kind Write
asks_from ReadPrecharge c a = asks_at Read c.bank a
asks_from WritePrecharge c a = asks_at Write c.bank a
asks_from FourActivates c a = asks_kind a.kind Activate

by_asked : (b : Bool) {P : Type 0} → b ≡ true → Asks b P → P
by_asked true e p = p
by_asked false e p = cc

pub counted : (rule : Rule) (c a : Command) → counts_from rule c a ≡ true → From rule c a
counted rule c a e = by_asked (counts_from rule c a) e (asks_from rule c a)
