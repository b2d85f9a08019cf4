-- A trace with a bad line does not pass: what is refused at a line is not lawful as a whole.
use Rattle.std.proofs.Common.{◌≡◌, ℕ, zero, suc, ◌+◌, ◌<◌, true, false, List, [], ◌∷◌, ◌++◌, map, length, get_or, take, drop, Some, None, sym, refl, ap, ◌∙◌, subst, arith}
use Rattle.std.proofs.lemmas.List.{take-map, take-append-drop, drop_more}
use Rattle.sheet.specs.declared.accepted.Sheet.{Sheet}
use Rattle.sheet.specs.declared.geometry.Chip.{Chip}
use Rattle.rulebook.specs.Book.{Obeys}
use Rattle.rulebook.specs.declared.command.Command.{Command}
use Rattle.rulebook.specs.declared.rule.Rule.{Rule}
use Rattle.trace.specs.Line.{proper, command_in}
use Rattle.trace.specs.Text.{no_command, AllProper}
use Rattle.std.proofs.lemmas.Option.{same_Some}
use Rattle.checker.specs.Judging.{Breaks, Clean, Unlawful}

-- each of proper commands is proper
proper_at : (cs : List Command) (i : ℕ) → AllProper cs → i < length cs → proper (get_or cs i no_command) ≡ true
proper_at [] i a h = absurd (omega arith)
proper_at (c ∷ cs) zero a h = a.0
proper_at (c ∷ cs) (suc i) a h = proper_at cs i a.1 (omega arith)

pub improper_fails : (s : Sheet) (k : Chip) (cs : List Command) (i : ℕ) → i < length cs → proper (get_or cs i no_command) ≡ false → Clean s k cs → ⊥
improper_fails s k cs i h e clean =
    let p = proper_at cs i clean.all_proper h in
    cc

-- a list around one of its places
around : {X : Type 0} (xs : List X) (i : ℕ) (d : X) → i < length xs → xs ≡ take i xs ++ get_or xs i d ∷ drop (i + 1) xs
around xs i d h = sym (take-append-drop i xs) ∙ ap (λ t. take i xs ++ t) (drop_more xs i d h)

-- a command that breaks a rule is in no trace that obeys
pub broken_fails : (s : Sheet) (k : Chip) (cs : List Command) (i : ℕ) (d : Command) (rule : Rule) → i < length cs → Breaks s k (take i cs) (get_or cs i d) rule → Obeys s k cs → ⊥
broken_fails s k cs i d rule h b o = b.broken (o (take i cs) (get_or cs i d) (drop (i + 1) cs) (around cs i d h) rule)

-- lists that are the same under Some are the same
somes_same : {X : Type 0} (xs ys : List X) → map Some xs ≡ map Some ys → xs ≡ ys
somes_same [] [] e = refl
somes_same [] (y ∷ ys) e = cc
somes_same (x ∷ xs) [] e = cc
somes_same (x ∷ xs) (y ∷ ys) e =
    let first : x ≡ y = cc in
    λ i. first i ∷ somes_same xs ys (cc) i

-- what the line at a place stands for, where all lines stand for commands
record AtPlace (lines : List (List ℕ)) (cs : List Command) (i : ℕ) : Type 0 where
  inside : i < length cs
  is : command_in (get_or lines i []) ≡ Some (get_or cs i no_command)

at_place : (lines : List (List ℕ)) (cs : List Command) (i : ℕ) → i < length lines → map command_in lines ≡ map Some cs → AtPlace lines cs i
at_place [] cs i h e = absurd (omega arith)
at_place (l ∷ lines) [] i h e = cc
at_place (l ∷ lines) (c ∷ cs) zero h e = record { inside = omega arith; is = cc }
at_place (l ∷ lines) (c ∷ cs) (suc i) h e =
    let r = at_place lines cs i (omega arith) (cc) in
    record { inside = omega (arith, r.inside); is = r.is }

pub malformed_fails : (s : Sheet) (k : Chip) (lines : List (List ℕ)) (i : ℕ) → i < length lines → command_in (get_or lines i []) ≡ None → Unlawful s k lines
malformed_fails s k lines i h e = λ cs l.
    let p = at_place lines cs i h l.stand_for in
    cc p.is

pub line_fails : (s : Sheet) (k : Chip) (lines : List (List ℕ)) (i : ℕ) (before : List Command) (c : Command) (rule : Rule) → i < length lines →
    map command_in (take i lines) ≡ map Some before → command_in (get_or lines i []) ≡ Some c → Breaks s k before c rule → Unlawful s k lines
line_fails s k lines i before c rule h e f b = λ cs l.
    let p = at_place lines cs i h l.stand_for in
    let front : before ≡ take i cs = somes_same before (take i cs) (sym e ∙ sym (take-map command_in i lines) ∙ ap (take i) l.stand_for ∙ take-map Some i cs) in
    let same : c ≡ get_or cs i no_command = same_Some c (get_or cs i no_command) (sym f ∙ p.is) in
    broken_fails s k cs i no_command rule p.inside
    (subst (λ (h : List Command). Breaks s k h (get_or cs i no_command) rule) front (subst (λ (d : Command). Breaks s k before d rule) same b)) l.obeys
