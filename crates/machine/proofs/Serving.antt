-- A tick keeps a machine running: what is in service waits, goes on or ends, and no service outlasts its span.
use Rattle.std.proofs.Common.{◌≡◌, ℕ, ◌+◌, ◌-◌, ◌<◌, Bool, true, false, cond, eqb, List, [], ◌∷◌, ◌++◌, Some, None, Option, sym, refl, ap, ◌∙◌, subst, arith}
use Rattle.std.specs.List.{AllByRecursion}
use Rattle.rulebook.specs.declared.command.Command.{Command}
use Rattle.rulebook.specs.declared.command.Kind.{Kind}
use Rattle.rulebook.specs.declared.command.Kind.TheVariants.{Idle, Activate, Precharge, Read, Write}
use Rattle.rulebook.specs.Book.{open_row, Obeys}
use Rattle.rulebook.proofs.Lists.{every_map}
use Rattle.policy.specs.declared.entry.Entry.{Entry}
use Rattle.policy.specs.Meaning.{Timely}
use Rattle.policy.specs.FirstLaws.{timely_sooner}
use Rattle.machine.specs.Machine.{Service, Machine, base_at, Goes, Ready, next_from, next_command, column_for, precharge_for, stays_after}
use Rattle.machine.proofs.Stretches.{closing, opening, moving}
use Rattle.machine.proofs.Steps.{begun, sent, Begins, running, idle, given, Halves}
use Rattle.machine.proofs.Stages.{Proper, Stage, Staged, limit_within, later_floor, stage_waits, stage_moves}
use Rattle.machine.proofs.Running.{unserved_of, Running, Begun, same_runs, begins_runs}

-- the cycle ends with nothing in service
idle_runs : (m : Machine) → m.service ≡ None → Timely m.policy.span m.clock m.policy.waiting → Running m → Running (sent m None None)
idle_runs m free late r = record {
  shaped = r.shaped;
  span_fits = r.span_fits;
  banks_fit = r.banks_fit;
  clock_some = omega arith;
  obeys = r.obeys;
  before = every_map {P = λ a. a.cycle < m.clock} (λ a l. omega arith) m.trace r.before;
  proper = subst (λ (o : Option Service). AllByRecursion (Proper m.chip) (unserved_of o m.policy.waiting)) free r.proper;
  timely = subst (λ (b : ℕ). Timely m.policy.span b m.policy.waiting) (omega arith) late;
  stage = tt;
}

-- where a service stands in a machine that has one
pub stage_of : (m : Machine) (s : Service) → m.service ≡ Some s → Running m → Stage m s
stage_of m s w r = subst (λ (o : Option Service). Staged m o) w r.stage

pub proper_of : (m : Machine) (s : Service) → m.service ≡ Some s → Running m → AllByRecursion (Proper m.chip) (s.entry ∷ m.policy.waiting)
proper_of m s w r = subst (λ (o : Option Service). AllByRecursion (Proper m.chip) (unserved_of o m.policy.waiting)) w r.proper

pub timely_of : (m : Machine) (s : Service) → m.service ≡ Some s → Running m → Timely m.policy.span ((s.start + m.policy.span) - 1) m.policy.waiting
timely_of m s w r = subst (λ (o : Option Service). Timely m.policy.span (base_at m.clock m.policy.span o) m.policy.waiting) w r.timely

-- a service runs less than a span
pub within_span : (m : Machine) (s : Service) → Stage m s → m.policy.span ≡ closing m.sheet + opening m.sheet + moving m.sheet → m.clock < s.start + m.policy.span
within_span m s g fits = omega (arith, g.limit, limit_within m.sheet s.entry.row g.row)

-- the cycle ends with the service not ready to go on
waits_runs : (m : Machine) (s : Service) → m.service ≡ Some s → (Ready m s.entry → ⊥) → Running m → Running (sent m None (Some s))
waits_runs m s w unready r = record {
  shaped = r.shaped;
  span_fits = r.span_fits;
  banks_fit = r.banks_fit;
  clock_some = omega arith;
  obeys = r.obeys;
  before = every_map {P = λ a. a.cycle < m.clock} (λ a l. omega arith) m.trace r.before;
  proper = proper_of m s w r;
  timely = timely_of m s w r;
  stage = stage_waits m s (stage_of m s w r) r.obeys (proper_of m s w r).0 r.span_fits unready;
}

-- the next command carries this cycle
open_cycle : (b : Bool) (clock : ℕ) (e : Entry) → (cond {A = Command} b (column_for clock e) (precharge_for clock e)).cycle ≡ clock
open_cycle true clock e = refl
open_cycle false clock e = refl

pub next_cycle : (o : Option ℕ) (clock : ℕ) (e : Entry) → (next_from o clock e).cycle ≡ clock
next_cycle None clock e = refl
next_cycle (Some row) clock e = open_cycle (eqb row e.row) clock e

-- what a command leaves unserved was so before
pub all_left : (P : Entry → Type 0) (k : Kind) (s : Service) (es : List Entry) → AllByRecursion P (s.entry ∷ es) → AllByRecursion P (unserved_of (stays_after k s) es)
all_left P Idle s es a = a
all_left P Activate s es a = a
all_left P Precharge s es a = a
all_left P Read s es a = a.1
all_left P Write s es a = a.1

-- a service that ends lets the others' spans be counted from an earlier cycle
timely_left : (k : Kind) (s : Service) (clock span : ℕ) (es : List Entry) → clock < s.start + span → Timely span ((s.start + span) - 1) es → Timely span (base_at (clock + 1) span (stays_after k s)) es
timely_left Idle s clock span es l t = t
timely_left Activate s clock span es l t = t
timely_left Precharge s clock span es l t = t
timely_left Read s clock span es l t = timely_sooner span ((clock + 1) - 1) ((s.start + span) - 1) es (omega arith) t
timely_left Write s clock span es l t = timely_sooner span ((clock + 1) - 1) ((s.start + span) - 1) es (omega arith) t

-- the cycle ends with the next command sent
moves_runs : (m : Machine) (s : Service) (c : Command) → m.service ≡ Some s → c ≡ next_command m s.entry → Ready m s.entry → Running m → Running (sent m (Some c) (stays_after c.kind s))
moves_runs m s c w is ready r =
    let now : c.cycle ≡ m.clock = ap (λ (d : Command). d.cycle) is ∙ next_cycle (open_row s.entry.bank m.trace) m.clock s.entry in
    record {
      shaped = r.shaped;
      span_fits = r.span_fits;
      banks_fit = r.banks_fit;
      clock_some = omega arith;
      obeys = subst (λ (d : Command). Obeys m.sheet m.chip (m.trace ++ (d ∷ []))) (sym is) ready.0;
      before = later_floor m.clock (m.clock + 1) m.trace c (omega arith) (omega arith) r.before;
      proper = all_left (Proper m.chip) c.kind s m.policy.waiting (proper_of m s w r);
      timely = timely_left c.kind s m.clock m.policy.span m.policy.waiting (within_span m s (stage_of m s w r) r.span_fits) (timely_of m s w r);
      stage = stage_moves m s (stage_of m s w r) (proper_of m s w r).0 c is;
    }

begun_left : (k : Kind) (s : Service) (clock : ℕ) → s.start < clock → Begun clock (stays_after k s)
begun_left Idle s clock l = l
begun_left Activate s clock l = l
begun_left Precharge s clock l = l
begun_left Read s clock l = tt
begun_left Write s clock l = tt

-- a running machine after its cycle, with a service that began before the new clock
abbrev pub Runs : Machine → Type 0
Runs n = Running n × Begun n.clock n.service

served_runs : (m : Machine) (s : Service) (answer : Option Command) (then : Option Service) → m.service ≡ Some s → Goes m (Some s) answer then → Running m → Runs (sent m answer then)
served_runs m s None then w g r = subst (λ (o : Option Service). Runs (sent m None o)) (sym g.1) (waits_runs m s w g.0 r, omega (arith, (stage_of m s w r).began))
served_runs m s (Some c) then w g r = subst (λ (o : Option Service). Runs (sent m (Some c) o)) (sym g.2) (moves_runs m s c w g.0 g.1 r, begun_left c.kind s (m.clock + 1) (omega (arith, (stage_of m s w r).began)))

-- with something in service, the cycle goes by the service
pub half_runs : (m : Machine) (s : Service) (now : Option Service) (answer : Option Command) (then : Option Service) → now ≡ Some s → m.service ≡ now → Goes m now answer then → Running m → Runs (sent m answer then)
half_runs m s now answer then is w g r = served_runs m s answer then (w ∙ is) (subst (λ (o : Option Service). Goes m o answer then) is g) r

-- with nothing in service and nothing given, nothing goes out
pub nothing_goes : (m : Machine) (now : Option Service) (answer : Option Command) (then : Option Service) → now ≡ None → Goes m now answer then → (answer ≡ None) × (then ≡ None)
nothing_goes m None None then is g = (refl, g)
nothing_goes m None (Some c) then is g = absurd g
nothing_goes m (Some s) answer then is g = cc

tick_by : (m : Machine) (answer : Option Command) (then : Option Service) (pc : ℕ) (es : List Entry) (now : Option Service) → Begins m es now → Goes (begun m pc es now) now answer then → Running m → Runs (sent (begun m pc es now) answer then)
tick_by m answer then pc es now (running s v w is) g r = half_runs (begun m pc es now) s now answer then is refl g (same_runs m pc es now w (is ∙ sym v) r)
tick_by m answer then pc es now (given e v w is on) g r = half_runs (begun m pc es now) (record { entry = e; start = m.clock }) now answer then is refl g (begins_runs m pc es now (given e v w is on) r)
tick_by m answer then pc es now (idle v w is late) g r =
    let n = nothing_goes (begun m pc es now) now answer then is g in
    subst (λ (o : Option Command). Runs (sent (begun m pc es now) o then)) (sym n.0)
    (subst (λ (o : Option Service). Runs (sent (begun m pc es now) None o)) (sym n.1)
    (idle_runs (begun m pc es now) is (subst (λ (xs : List Entry). Timely m.policy.span m.clock xs) (sym w) late) (same_runs m pc es now w (is ∙ sym v) r), tt))

pub ticked_runs : (m : Machine) (answer : Option Command) (n : Machine) → Halves m answer n → Running m → Runs n
ticked_runs m answer n h r = subst Runs (sym h.ends) (tick_by m answer n.service h.policy_clock h.entries h.now h.begins h.goes r)
