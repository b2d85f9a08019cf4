-- Going back over lines that stand for commands finds the latest of a sort, and the fourth latest activate.
use Rattle.std.proofs.Common.{◌≡◌, ℕ, zero, suc, ◌<◌, ◌≤◌, Bool, true, false, cond, List, [], ◌∷◌, ◌++◌, reverse, length, get_or, take, drop, Some, None, Option, sym, refl, ap, ◌∙◌, subst, append-nil, arith, drop-cons, take-suc}
use mathlib.Core.List.{reverse-append}
use Rattle.std.specs.Option.{option_map}
use Rattle.std.proofs.lemmas.List.{take-append-drop}
use Rattle.sheet.specs.declared.accepted.Sheet.{Sheet}
use Rattle.sheet.specs.declared.geometry.Chip.{Chip}
use Rattle.rulebook.specs.Book.{Every, activates, Obeys}
use Rattle.rulebook.specs.Summary.{Latest, cycle_at}
use Rattle.rulebook.specs.declared.command.Command.{Command}
use Rattle.rulebook.specs.declared.command.Kind.TheVariants.{Activate}
use Rattle.rulebook.specs.declared.rule.Rule.TheVariants.{CyclesRise}
use Rattle.rulebook.proofs.Recorded.{latest_more, activates_more}
use Rattle.rulebook.proofs.Told.{Asks}
use Rattle.trace.specs.Fields.{and_then}
use Rattle.trace.specs.Line.{command_in}
use Rattle.trace.specs.Text.{no_command, line_at}
use Rattle.report.specs.Gaps.{is_of, step_back, latest_such}

-- each of the first lines of a text stands for the command in its place
abbrev pub StandFor : List ℕ → List Command → Type 0
StandFor text cs = (i : ℕ) → i < length cs → command_in (line_at text i) ≡ Some (get_or cs i no_command)

abbrev pub cycle_of : Option Command → Option ℕ
cycle_of o = option_map (λ (a : Command). a.cycle) o

-- cycles rise in a trace that obeys
rises : (s : Sheet) (k : Chip) (cs : List Command) (n : ℕ) → Obeys s k cs → n < length cs → Every (λ a. a.cycle < (get_or cs n no_command).cycle) (take n cs)
rises s k cs n obeys h =
    obeys (take n cs) (get_or cs n no_command) (drop (suc n) cs)
    (sym (take-append-drop n cs) ∙ ap (λ t. take n cs ++ t) (drop-cons cs n no_command h)) CyclesRise

one_test : (b : Bool) (c : Command) (before : ℕ → Option Command) → cycle_of (step_back (cond b (Some c) None) 0 before) ≡ cond b (Some c.cycle) (cycle_of (before 0))
one_test true c before = refl
one_test false c before = refl

-- the latest of a sort
pub latest_is : (such : Command → Bool) (P : Command → Type 0) → ((a : Command) → Asks (such a) (P a)) → (s : Sheet) (k : Chip) (text : List ℕ) (cs : List Command) →
    StandFor text cs → Obeys s k cs → (n : ℕ) → n ≤ length cs → Latest P (take n cs) (cycle_of (latest_such such 0 text n))
unfolding latest_such
latest_is such P asks s k text cs stand obeys zero h = tt
latest_is such P asks s k text cs stand obeys (suc n) h =
    let c = get_or cs n no_command in
    let within : n < length cs = omega arith in
    let before : ℕ → Option Command = λ left. latest_such such left text n in
    let here =
    ap (λ (o : Option Command). cycle_of (step_back (and_then o (λ a. cond (such a) (Some a) None)) 0 before)) (stand n within)
    ∙ one_test (such c) c before in
    let more = latest_more P (take n cs) c (such c) (cycle_of (before 0)) (asks c) (rises s k cs n obeys within) (latest_is such P asks s k text cs stand obeys n (omega arith)) in
    subst (λ (t : List Command). Latest P t (cycle_of (latest_such such 0 text (suc n)))) (sym (take-suc cs n no_command within))
    (subst (λ (o : Option ℕ). Latest P (take n cs ++ c ∷ []) o) (sym here) more)

nothing_at : (over : ℕ) → None ≡ cycle_at over []
nothing_at zero = refl
nothing_at (suc over) = refl

one_back_in : (b : Bool) (over : ℕ) (acts : List Command) (c : Command) (before : ℕ → Option Command) → ((left : ℕ) → cycle_of (before left) ≡ cycle_at left (reverse acts)) →
    cycle_of (step_back (cond b (Some c) None) over before) ≡ cycle_at over (reverse (acts ++ cond b (c ∷ []) []))
one_back_in false over acts c before e = e over ∙ ap (λ (xs : List Command). cycle_at over (reverse xs)) (sym (append-nil acts))
one_back_in true zero acts c before e = ap (λ (xs : List Command). cycle_at 0 xs) (sym (reverse-append acts (c ∷ [])))
one_back_in true (suc left) acts c before e = e left ∙ ap (λ (xs : List Command). cycle_at (suc left) xs) (sym (reverse-append acts (c ∷ [])))

-- the activates by their place from the newest
pub activate_is : (text : List ℕ) (cs : List Command) → StandFor text cs → (n : ℕ) → n ≤ length cs → (over : ℕ) →
    cycle_of (latest_such (is_of Activate) over text n) ≡ cycle_at over (reverse (activates (take n cs)))
unfolding latest_such
activate_is text cs stand zero h over = nothing_at over
activate_is text cs stand (suc n) h over =
    let c = get_or cs n no_command in
    let within : n < length cs = omega arith in
    let before : ℕ → Option Command = λ left. latest_such (is_of Activate) left text n in
    ap (λ (o : Option Command). cycle_of (step_back (and_then o (λ a. cond (is_of Activate a) (Some a) None)) over before)) (stand n within)
    ∙ one_back_in (is_of Activate c) over (activates (take n cs)) c before (activate_is text cs stand n (omega arith))
    ∙ ap (λ (xs : List Command). cycle_at over (reverse xs)) (sym (activates_more (take n cs) c) ∙ ap activates (sym (take-suc cs n no_command within)))
