-- The stages of a service: its bank open at another row, closed, or open at its row. Each has a cycle before which all commands lie, and one by which its next command is lawful.
use Rattle.std.proofs.Common.{◌≡◌, ℕ, ◌+◌, ◌<◌, ◌≤◌, Bool, true, false, cond, eqb, ◌≢◌, List, [], ◌∷◌, ◌++◌, Some, None, Option, sym, refl, ap, ◌∙◌, subst, inl, inr, arith}
use Rattle.std.proofs.lemmas.Bool.{eqb-true, eq-eqb, cases_lt}
use Rattle.sheet.specs.declared.accepted.Sheet.{Sheet}
use Rattle.sheet.specs.declared.geometry.Chip.{Chip}
use Rattle.rulebook.specs.declared.command.Command.{Command}
use Rattle.rulebook.specs.declared.command.Kind.{Kind}
use Rattle.rulebook.specs.declared.command.Kind.TheVariants.{Idle, Activate, Precharge, Read, Write}
use Rattle.rulebook.specs.Book.{Column, row_after, open_row, AllBefore, Lawful, Obeys}
use Rattle.rulebook.proofs.Lists.{every_map, every_last}
use Rattle.rulebook.proofs.Obeying.{longer_obeys}
use Rattle.rulebook.proofs.Recorded.{opened_more, opened_here}
use Rattle.policy.specs.declared.entry.Entry.{Entry}
use Rattle.machine.specs.Machine.{Service, Machine, column_for, precharge_for, activate_for, next_from, next_command, Ready, stays_after}
use Rattle.machine.proofs.Stretches.{closing, opening, moving, some_closing, some_opening, some_moving, precharge_lawful, activate_lawful, column_lawful}
use Rattle.machine.proofs.Steps.{sent}

-- what can be served on a chip: a read or write inside it
pub record Proper (k : Chip) (e : Entry) : Type 0 where
  pub moves : Column e.kind
  pub bank_in : e.bank < k.banks
  pub row_in : e.row < k.rows
  pub column_in : e.column < k.columns

-- so many cycles after the start lie all commands sent before this stage
abbrev pub floor_of : Sheet → ℕ → Option ℕ → ℕ
floor_of s row None = closing s
floor_of s row (Some at) = cond (eqb at row) (closing s + opening s) 0

-- and within so many cycles from the start the stage ends
abbrev pub limit_of : Sheet → ℕ → Option ℕ → ℕ
limit_of s row None = closing s + opening s
limit_of s row (Some at) = cond (eqb at row) (closing s + opening s + moving s) (closing s)

-- where the service of a machine stands
pub record Stage (m : Machine) (s : Service) : Type 0 where
  pub row : Option ℕ
  pub row_is : open_row s.entry.bank m.trace ≡ row
  pub began : s.start ≤ m.clock
  pub floor : AllBefore (s.start + floor_of m.sheet s.entry.row row) m.trace
  pub limit : m.clock < s.start + limit_of m.sheet s.entry.row row
  pub in_time : s.start + m.policy.span ≤ s.entry.deadline + 1
  pub on_time : m.policy.holds ≡ true → s.entry.deadline + 1 ≡ s.start + m.policy.span

none_some : (row : ℕ) → ◌≢◌ {A = Option ℕ} (Some row) None
none_some row e = cc

-- once its stage's limit is reached, the next command is lawful
lawful_open : (s : Sheet) (k : Chip) (h : List Command) (e : Entry) (clock start row : ℕ) (b : Bool) → eqb row e.row ≡ b → open_row e.bank h ≡ Some row → Proper k e →
    AllBefore (start + cond b (closing s + opening s) 0) h → start + cond b (closing s + opening s + moving s) (closing s) ≤ clock + 1 →
    Lawful s k h (cond b (column_for clock e) (precharge_for clock e))
lawful_open s k h e clock start row true same is p all reached =
    column_lawful s k h (column_for clock e) (start + (closing s + opening s))
    p.moves (p.bank_in, p.row_in, p.column_in) (is ∙ ap Some (eqb-true row e.row same)) all (omega arith)
lawful_open s k h e clock start row false differ is p all reached =
    precharge_lawful s k h (precharge_for clock e) (start + 0)
    refl (p.bank_in, omega (arith, k.rows_in), omega (arith, k.columns_in)) (λ n. none_some row (sym is ∙ n)) all (omega arith)

lawful_by : (s : Sheet) (k : Chip) (h : List Command) (e : Entry) (clock start : ℕ) (o : Option ℕ) → open_row e.bank h ≡ o → Proper k e → AllBefore (start + floor_of s e.row o) h → start + limit_of s e.row o ≤ clock + 1 → Lawful s k h (next_from o clock e)
lawful_by s k h e clock start None is p all reached =
    activate_lawful s k h (next_from None clock e) (start + closing s) refl (p.bank_in, p.row_in, omega (arith, k.columns_in)) is all (omega arith)
lawful_by s k h e clock start (Some row) is p all reached = lawful_open s k h e clock start row (eqb row e.row) refl is p all reached

-- a column command comes in the last stage
column_last : (s : Sheet) (clock : ℕ) (e : Entry) (o : Option ℕ) → Column (next_from o clock e).kind → limit_of s e.row o ≡ closing s + opening s + moving s
column_last s clock e None c = absurd c
column_last s clock e (Some row) c = elim (eqb row e.row) as (λ b. Column (cond {A = Command} b (column_for clock e) (precharge_for clock e)).kind → cond b (closing s + opening s + moving s) (closing s) ≡ closing s + opening s + moving s) [
  | true ↦ λ _. refl
  | false ↦ λ d. absurd d
] c

-- no stage's limit lies past the span
pub limit_within : (s : Sheet) (row : ℕ) (o : Option ℕ) → limit_of s row o ≤ closing s + opening s + moving s
limit_within s row None = omega arith
limit_within s row (Some at) = elim (eqb at row) as (λ b. cond b (closing s + opening s + moving s) (closing s) ≤ closing s + opening s + moving s) [ true ↦ omega arith | false ↦ omega arith ]

-- at the limit the next command is ready
pub ready_at_limit : (m : Machine) (s : Service) → (g : Stage m s) → Obeys m.sheet m.chip m.trace → Proper m.chip s.entry → m.policy.span ≡ closing m.sheet + opening m.sheet + moving m.sheet →
    s.start + limit_of m.sheet s.entry.row g.row ≤ m.clock + 1 → Ready m s.entry
ready_at_limit m s g obeys p fits reached =
    subst (λ (o : Option ℕ). Obeys m.sheet m.chip (m.trace ++ (next_from o m.clock s.entry ∷ [])) × (m.policy.holds ≡ true → Column (next_from o m.clock s.entry).kind → m.clock ≡ s.entry.deadline)) (sym g.row_is) (
      longer_obeys m.sheet m.chip m.trace (next_from g.row m.clock s.entry) obeys (lawful_by m.sheet m.chip m.trace s.entry m.clock s.start g.row g.row_is p g.floor reached),
      λ holds column. omega (arith, g.on_time holds, g.limit, column_last m.sheet m.clock s.entry g.row column),
    )

-- while it is not, the stage goes on
pub stage_waits : (m : Machine) (s : Service) → Stage m s → Obeys m.sheet m.chip m.trace → Proper m.chip s.entry → m.policy.span ≡ closing m.sheet + opening m.sheet + moving m.sheet →
    (Ready m s.entry → ⊥) → Stage (sent m None (Some s)) s
stage_waits m s g obeys p fits unready = elim (cases_lt (m.clock + 1) (s.start + limit_of m.sheet s.entry.row g.row)) [
  | inl l ↦ record { row = g.row; row_is = g.row_is; began = omega (arith, g.began); floor = g.floor; limit = l; in_time = g.in_time; on_time = g.on_time }
  | inr l ↦ absurd (unready (ready_at_limit m s g obeys p fits l))
]

-- the bank's row after one more command to it
row_then : (h : List Command) (c : Command) → open_row c.bank (h ++ (c ∷ [])) ≡ row_after c.kind c.row (open_row c.bank h)
row_then h c = opened_more c.bank None h c ∙ opened_here c.bank (open_row c.bank h) c refl

-- commands that lie before a cycle lie before a later one, one more among them
pub later_floor : (t u : ℕ) (h : List Command) (c : Command) → t ≤ u → c.cycle < u → AllBefore t h → AllBefore u (h ++ (c ∷ []))
later_floor t u h c le lt all = every_last (λ a. a.cycle < u) h c (every_map {P = λ a. a.cycle < t} (λ a l. omega arith) h all) lt

-- what stands after a command went out: the next stage, or nothing
abbrev pub Staged : Machine → Option Service → Type 0
Staged m None = Unit {0}
Staged m (Some s) = Stage m s

-- an activate opens the bank at the row
here : (s : Sheet) (row : ℕ) → (floor_of s row (Some row) ≡ closing s + opening s) × (limit_of s row (Some row) ≡ closing s + opening s + moving s)
here s row = (
  ap (λ (b : Bool). cond b (closing s + opening s) 0) (eq-eqb row row refl),
  ap (λ (b : Bool). cond b (closing s + opening s + moving s) (closing s)) (eq-eqb row row refl),
)

after_activate : (m : Machine) (s : Service) (g : Stage m s) → g.row ≡ None → Stage (sent m (Some (activate_for m.clock s.entry)) (Some s)) s
after_activate m s g closed =
    let h = here m.sheet s.entry.row in
    let at : m.clock < s.start + (closing m.sheet + opening m.sheet) = subst (λ (o : Option ℕ). m.clock < s.start + limit_of m.sheet s.entry.row o) closed g.limit in
    let low : AllBefore (s.start + closing m.sheet) m.trace = subst (λ (o : Option ℕ). AllBefore (s.start + floor_of m.sheet s.entry.row o) m.trace) closed g.floor in
    record {
      row = Some s.entry.row;
      row_is = row_then m.trace (activate_for m.clock s.entry);
      began = omega (arith, g.began);
      floor = subst (λ (n : ℕ). AllBefore (s.start + n) (m.trace ++ (activate_for m.clock s.entry ∷ []))) (sym h.0) (later_floor (s.start + closing m.sheet) (s.start + (closing m.sheet + opening m.sheet)) m.trace (activate_for m.clock s.entry) (omega arith) at low);
      limit = omega (arith, h.1, some_moving m.sheet);
      in_time = g.in_time;
      on_time = g.on_time;
    }

after_precharge : (m : Machine) (s : Service) (g : Stage m s) → m.clock < s.start + closing m.sheet → AllBefore (s.start + 0) m.trace → Stage (sent m (Some (precharge_for m.clock s.entry)) (Some s)) s
after_precharge m s g at low = record {
  row = None;
  row_is = row_then m.trace (precharge_for m.clock s.entry);
  began = omega (arith, g.began);
  floor = later_floor (s.start + 0) (s.start + closing m.sheet) m.trace (precharge_for m.clock s.entry) (omega arith) at low;
  limit = omega (arith, some_opening m.sheet);
  in_time = g.in_time;
  on_time = g.on_time;
}

-- a column command ends the service
pub column_ends : (k : Kind) (s : Service) → Column k → stays_after k s ≡ None
column_ends Idle s c = absurd c
column_ends Activate s c = absurd c
column_ends Precharge s c = absurd c
column_ends Read s c = refl
column_ends Write s c = refl

after_open : (m : Machine) (s : Service) (g : Stage m s) (b : Bool) → Proper m.chip s.entry → m.clock < s.start + cond b (closing m.sheet + opening m.sheet + moving m.sheet) (closing m.sheet) → AllBefore (s.start + cond b (closing m.sheet + opening m.sheet) 0) m.trace →
    (c : Command) → c ≡ cond b (column_for m.clock s.entry) (precharge_for m.clock s.entry) → Staged (sent m (Some c) (stays_after c.kind s)) (stays_after c.kind s)
after_open m s g true p at low c is = subst (λ (c : Command). Staged (sent m (Some c) (stays_after c.kind s)) (stays_after c.kind s)) (sym is)
    (subst (λ (o : Option Service). Staged (sent m (Some (column_for m.clock s.entry)) o) o) (sym (column_ends s.entry.kind s p.moves)) tt)
after_open m s g false p at low c is = subst (λ (c : Command). Staged (sent m (Some c) (stays_after c.kind s)) (stays_after c.kind s)) (sym is) (after_precharge m s g at low)

after_any : (m : Machine) (s : Service) (g : Stage m s) (o : Option ℕ) → g.row ≡ o → Proper m.chip s.entry → (c : Command) → c ≡ next_from o m.clock s.entry → Staged (sent m (Some c) (stays_after c.kind s)) (stays_after c.kind s)
after_any m s g None w p c is = subst (λ (c : Command). Staged (sent m (Some c) (stays_after c.kind s)) (stays_after c.kind s)) (sym is) (after_activate m s g w)
after_any m s g (Some row) w p c is = after_open m s g (eqb row s.entry.row) p
    (subst (λ (o : Option ℕ). m.clock < s.start + limit_of m.sheet s.entry.row o) w g.limit)
    (subst (λ (o : Option ℕ). AllBefore (s.start + floor_of m.sheet s.entry.row o) m.trace) w g.floor) c is

-- the next command goes out, and the service moves on or ends
pub stage_moves : (m : Machine) (s : Service) → Stage m s → Proper m.chip s.entry → (c : Command) → c ≡ next_command m s.entry → Staged (sent m (Some c) (stays_after c.kind s)) (stays_after c.kind s)
stage_moves m s g p c is = after_any m s g g.row refl p c (is ∙ ap (λ (o : Option ℕ). next_from o m.clock s.entry) g.row_is)

-- a service begins in some stage
first_limit : (s : Sheet) (row : ℕ) (o : Option ℕ) → 1 ≤ limit_of s row o
first_limit s row None = omega (arith, some_closing s)
first_limit s row (Some at) = elim (eqb at row) as (λ b. 1 ≤ cond b (closing s + opening s + moving s) (closing s)) [ true ↦ omega (arith, some_closing s) | false ↦ omega (arith, some_closing s) ]

pub stage_begins : (m : Machine) (s : Service) → s.start ≡ m.clock → AllBefore m.clock m.trace → m.clock + m.policy.span ≤ s.entry.deadline + 1 → (m.policy.holds ≡ true → s.entry.deadline + 1 ≡ m.clock + m.policy.span) → Stage m s
stage_begins m s at all in_time on_time = record {
  row = open_row s.entry.bank m.trace;
  row_is = refl;
  began = omega arith;
  floor = every_map {P = λ a. a.cycle < m.clock} (λ a l. omega arith) m.trace all;
  limit = omega (arith, first_limit m.sheet s.entry.row (open_row s.entry.bank m.trace));
  in_time = omega arith;
  on_time = λ h. omega (arith, on_time h);
}
