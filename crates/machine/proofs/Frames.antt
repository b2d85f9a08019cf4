-- One column command of a requester a frame: its slots lie a frame apart.
use Rattle.std.proofs.Common.{◌≡◌, ℕ, ◌+◌, ◌-◌, ◌*◌, ◌/◌, ◌%◌, ◌<◌, ◌≤◌, Bool, true, false, cond, ◌&&◌, eqb, ◌≢◌, List, [], ◌∷◌, ◌++◌, filter, sym, ap, ◌∙◌, subst, append_assoc, mul-le-mul_right, mod-lt, arith}
use native.Mathlib.Nat.{div-add-mod}
use Rattle.std.specs.List.{AllByRecursion}
use Rattle.std.proofs.lemmas.Nat.{div-mul-add}
use Rattle.std.proofs.ByRecursion.{kept_by_passes, all_kept_by}
use Rattle.std.proofs.lemmas.Bool.{eqb-true, and_parts}
use Rattle.rulebook.specs.declared.command.Command.{Command}
use Rattle.rulebook.specs.declared.command.Kind.{Kind}
use Rattle.rulebook.specs.declared.command.Kind.TheVariants.{Idle, Activate, Precharge, Read, Write}
use Rattle.rulebook.specs.Book.{Every, Column, Obeys}
use Rattle.rulebook.proofs.Obeying.{rest_rises}
use Rattle.sheet.specs.declared.accepted.Sheet.{Sheet}
use Rattle.sheet.specs.declared.geometry.Chip.{Chip}
use Rattle.policy.specs.Meaning.{slot_end}
use Rattle.machine.specs.Machine.{opened}
use Rattle.machine.specs.Promises.{is_column, columns_of, OneAFrame}
use Rattle.machine.specs.Opens.{WheneverOpened}
use Rattle.machine.proofs.Lists.{all_both, all_at}
use Rattle.machine.proofs.Logged.{logged}
use Rattle.machine.proofs.Turning.{EndsOwn, InSlot}
use Rattle.machine.proofs.Reached.{opened_reached, reached}

-- a slot's end falls into the frame that the slot is in
slot_frame : (w n f : ℕ) → 1 ≤ w → 1 ≤ n → (slot_end w f - 1) / (n * w) ≡ f / n
slot_frame w n f o h =
    let q = f / n in
    let r = f % n in
    let low : r < n = mod-lt f {m = n} (omega arith) in
    let whole = div-add-mod f n in
    let rest : (r + 1) * w ≤ n * w = mul-le-mul_right {m = r + 1} {n = n} w (omega arith) in
    ap (λ (x : ℕ). x / (n * w)) (omega (arith, ap (λ (x : ℕ). x * w) whole)) ∙ div-mul-add q (n * w) ((r + 1) * w - 1) (omega arith)

-- a requester has one slot in a frame
same_slot : (n f g : ℕ) → f % n ≡ g % n → f / n ≡ g / n → f ≡ g
same_slot n f g e d = omega (arith, div-add-mod f n, div-add-mod g n, ap (λ (x : ℕ). n * x) d)

pub frames_apart : (w n r a b : ℕ) → 1 ≤ w → 1 ≤ n → EndsOwn w n r a → EndsOwn w n r b → a < b → (a - 1) / (n * w) ≢ (b - 1) / (n * w)
frames_apart w n r a b o h x y l e =
    let f = x.0 in
    let g = y.0 in
    let same : f ≡ g = same_slot n f g (x.1 ∙ sym y.1) (sym (slot_frame w n f o h) ∙ sym (ap (λ (t : ℕ). (t - 1) / (n * w)) x.2) ∙ e ∙ ap (λ (t : ℕ). (t - 1) / (n * w)) y.2 ∙ slot_frame w n g o h) in
    omega (arith, x.2, y.2, ap (λ (t : ℕ). slot_end w t) same)

-- every command of a list is such
pub all_from : (P : Command → Type 0) (cs : List Command) → Every P cs → AllByRecursion P cs
all_from P [] e = tt
all_from P (c ∷ cs) e = (e.0, all_from P cs e.1)

-- each command comes before those after it
abbrev Rising : List Command → Type 0
Rising [] = Unit {0}
Rising (c ∷ cs) = AllByRecursion (λ d. c.cycle < d.cycle) cs × Rising cs

rising_from : (s : Sheet) (k : Chip) (before cs : List Command) → Obeys s k (before ++ cs) → Rising cs
rising_from s k before [] o = tt
rising_from s k before (c ∷ cs) o = (all_from (λ d. c.cycle < d.cycle) cs (rest_rises s k before c cs o), rising_from s k (before ++ (c ∷ [])) cs (subst (λ (h : List Command). Obeys s k h) (sym (append_assoc before (c ∷ []) cs)) o))

kept_rising : (p : Command → Bool) (cs : List Command) → Rising cs → Rising (filter p cs)
kept_rising p [] r = tt
kept_rising p (c ∷ cs) r = elim (p c) as (λ b. Rising (cond b (c ∷ filter p cs) (filter p cs))) [
  | true ↦ (all_kept_by p (λ d. c.cycle < d.cycle) cs r.0, kept_rising p cs r.1)
  | false ↦ kept_rising p cs r.1
]

rising_at : (front : List Command) (c : Command) (mid : List Command) (d : Command) (back : List Command) → Rising (front ++ (c ∷ mid ++ (d ∷ back))) → c.cycle < d.cycle
rising_at [] c mid d back r = all_at (λ x. c.cycle < x.cycle) mid d back r.0
rising_at (x ∷ front) c mid d back r = rising_at front c mid d back r.1

column_from : (k : Kind) → is_column k ≡ true → Column k
column_from Idle e = cc
column_from Activate e = cc
column_from Precharge e = cc
column_from Read e = tt
column_from Write e = tt

-- the column commands of a requester lie at the ends of its slots
columns_in_slots : (w n r : ℕ) (h : List Command) → Every (InSlot w n) h → AllByRecursion (λ c. EndsOwn w n r c.cycle) (columns_of r h)
columns_in_slots w n r h e =
    let p : Command → Bool = λ (c : Command). is_column c.kind && eqb c.requester r in
    all_both (InSlot w n) (λ c. p c ≡ true) (λ c. EndsOwn w n r c.cycle)
    (λ c i t. let q = and_parts (is_column c.kind) (eqb c.requester r) t in
    subst (λ (x : ℕ). EndsOwn w n x c.cycle) (eqb-true c.requester r q.1) (i (column_from c.kind q.0)))
    (columns_of r h) (all_kept_by p (InSlot w n) h (all_from (InSlot w n) h e)) (kept_by_passes p h)

pub one_a_frame : WheneverOpened OneAFrame
one_a_frame s k last p f o r log n c front mid back x y whole =
    let t = logged s k last p f log n c in
    let l = reached (opened s k last p) (opened s k last p) log n (opened_reached s k last p f o) c in
    let w = n.policy.span in
    let h : columns_of r n.trace ≡ front ++ (x ∷ mid ++ (y ∷ back)) = ap (λ (cs : List Command). columns_of r cs) t.told.trace_is ∙ whole in
    let slots : AllByRecursion (λ (d : Command). EndsOwn w n.policy.requesters r d.cycle) (front ++ (x ∷ mid ++ (y ∷ back))) =
    subst (λ (cs : List Command). AllByRecursion (λ (d : Command). EndsOwn w n.policy.requesters r d.cycle) cs) h (columns_in_slots w n.policy.requesters r n.trace l.turns.columns) in
    let rises : Rising (front ++ (x ∷ mid ++ (y ∷ back))) =
    subst Rising h (kept_rising (λ (d : Command). is_column d.kind && eqb d.requester r) n.trace (rising_from n.sheet n.chip [] n.trace t.runs.0.obeys)) in
    let first = all_at (λ (d : Command). EndsOwn w n.policy.requesters r d.cycle) front x (mid ++ (y ∷ back)) slots in
    let second = all_at (λ (d : Command). EndsOwn w n.policy.requesters r d.cycle) (front ++ (x ∷ mid)) y back
    (subst (λ (cs : List Command). AllByRecursion (λ (d : Command). EndsOwn w n.policy.requesters r d.cycle) cs) (sym (append_assoc front (x ∷ mid) (y ∷ back))) slots) in
    let shape = t.told.constant.shape_is in
    let apart = frames_apart w n.policy.requesters r x.cycle y.cycle (omega (arith, t.runs.0.shaped.span_bound)) (omega (arith, t.runs.0.shaped.some_requester)) first second (rising_at front x mid y back rises) in
    λ e. apart ((λ i. (x.cycle - 1) / (shape.requesters_same i * shape.span_same i)) ∙ e ∙ sym (λ i. (y.cycle - 1) / (shape.requesters_same i * shape.span_same i)))
