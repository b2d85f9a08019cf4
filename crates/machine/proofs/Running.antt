-- What every machine keeps that a chain reaches, whatever was called: within the rules, deadlines that leave room, and a service in one of its stages.
use Rattle.std.proofs.Common.{◌≡◌, ℕ, ◌+◌, ◌-◌, ◌<◌, ◌≤◌, true, List, ◌∷◌, ◌++◌, Some, None, Option, sym, refl, ◌∙◌, subst, arith}
use Rattle.std.specs.List.{AllByRecursion}
use Rattle.sheet.specs.declared.accepted.Sheet.{Sheet}
use Rattle.sheet.specs.declared.geometry.Chip.{Chip}
use Rattle.rulebook.specs.Book.{AllBefore, Obeys}
use Rattle.rulebook.proofs.Obeying.{nothing_obeys}
use Rattle.policy.specs.declared.entry.Request.{Request}
use Rattle.policy.specs.declared.entry.Entry.{Entry}
use Rattle.policy.specs.Meaning.{Meaning, WellShaped, Timely}
use Rattle.machine.specs.Machine.{Service, Machine, opened, base_at, base, Accepted, entry_for}
use Rattle.machine.specs.Opens.{Fits}
use Rattle.machine.proofs.Lists.{all_joined}
use Rattle.machine.proofs.Stretches.{closing, opening, moving, span_is}
use Rattle.machine.proofs.Steps.{still_shaped, counted_in, changed, joined_to, begun, Begins, running, idle, given}
use Rattle.machine.proofs.Stages.{Proper, Staged, stage_begins}
use Rattle.machine.proofs.Offers.{acceptable, entry_proper}

-- the entries not yet served: the one in service, then those that wait
abbrev pub unserved_of : Option Service → List Entry → List Entry
unserved_of None es = es
unserved_of (Some s) es = s.entry ∷ es

abbrev pub unserved : Machine → List Entry
unserved m = unserved_of m.service m.policy.waiting

pub record Running (m : Machine) : Type 0 where
  pub shaped : WellShaped m.policy
  pub span_fits : m.policy.span ≡ closing m.sheet + opening m.sheet + moving m.sheet
  pub banks_fit : m.policy.banks ≡ m.chip.banks
  pub clock_some : 1 ≤ m.clock
  pub obeys : Obeys m.sheet m.chip m.trace
  pub before : AllBefore m.clock m.trace
  pub proper : AllByRecursion (Proper m.chip) (unserved m)
  pub timely : Timely m.policy.span (base m) m.policy.waiting
  pub stage : Staged m m.service

-- a service that a call leaves began before its clock
abbrev pub Begun : ℕ → Option Service → Type 0
Begun clock None = Unit {0}
Begun clock (Some s) = s.start < clock

pub opened_runs : (s : Sheet) (k : Chip) (last : ℕ) (p : Meaning) → Fits s k last p → Running (opened s k last p)
opened_runs s k last p f = record {
  shaped = f.shaped;
  span_fits = f.span_fits ∙ span_is s k;
  banks_fit = f.banks_fit;
  clock_some = omega arith;
  obeys = nothing_obeys s k;
  before = tt;
  proper = subst (λ (es : List Entry). AllByRecursion (Proper k) es) (sym f.nothing_waits) tt;
  timely = subst (λ (es : List Entry). Timely p.span 0 es) (sym f.nothing_waits) tt;
  stage = tt;
}

-- a stage does not depend on who waits
staged_on : (m : Machine) (pc : ℕ) (es : List Entry) (now : Option Service) (counts : ℕ → ℕ) (o : Option Service) → Staged m o → Staged (changed m pc es now counts) o
staged_on m pc es now counts None g = tt
staged_on m pc es now counts (Some s) g = record { row = g.row; row_is = g.row_is; began = g.began; floor = g.floor; limit = g.limit; in_time = g.in_time; on_time = g.on_time }

-- an entry joins
pub unserved_joined : (P : Entry → Type 0) (o : Option Service) (front back : List Entry) (e : Entry) → P e → AllByRecursion P (unserved_of o (front ++ back)) → AllByRecursion P (unserved_of o (front ++ (e ∷ back)))
unserved_joined P None front back e p a = all_joined P front back e p a
unserved_joined P (Some s) front back e p a = (a.0, all_joined P front back e p a.1)

pub all_unserved_joined : (P : Entry → Type 0) (m : Machine) (q : Request) (number deadline : ℕ) (n : Machine) (a : Accepted m q number deadline n) → P (entry_for m.policy q number a.kind deadline) → AllByRecursion P (unserved m) → AllByRecursion P (unserved_of m.service n.policy.waiting)
all_unserved_joined P m q number deadline n a p all =
    let j = a.taken.joins in
    let e = entry_for m.policy q number a.kind deadline in
    subst (λ (es : List Entry). AllByRecursion P (unserved_of m.service es)) (sym j.3)
    (unserved_joined P m.service j.0 j.1 e p (subst (λ (es : List Entry). AllByRecursion P (unserved_of m.service es)) j.2 all))

pub accepted_runs : (m : Machine) (q : Request) (number deadline : ℕ) (n : Machine) → Accepted m q number deadline n → Running m → Running (joined_to m q.requester n.policy.waiting)
accepted_runs m q number deadline n a r = record {
  shaped = still_shaped m.policy m.clock n.policy.waiting r.shaped;
  span_fits = r.span_fits;
  banks_fit = r.banks_fit;
  clock_some = r.clock_some;
  obeys = r.obeys;
  before = r.before;
  proper = all_unserved_joined (Proper m.chip) m q number deadline n a (entry_proper m q number a.kind deadline (acceptable m q a.no_reason) a.kind_is r.shaped r.banks_fit) r.proper;
  timely = a.taken.timely;
  stage = staged_on m m.clock n.policy.waiting m.service (counted_in m.accepted q.requester) m.service r.stage;
}

-- nobody new comes into service
pub same_runs : (m : Machine) (pc : ℕ) (es : List Entry) (now : Option Service) → es ≡ m.policy.waiting → now ≡ m.service → Running m → Running (begun m pc es now)
same_runs m pc es now w v r = subst (λ (xs : List Entry). Running (begun m pc xs now)) (sym w) (subst (λ (o : Option Service). Running (begun m pc m.policy.waiting o)) (sym v) (record {
  shaped = still_shaped m.policy pc m.policy.waiting r.shaped;
  span_fits = r.span_fits;
  banks_fit = r.banks_fit;
  clock_some = r.clock_some;
  obeys = r.obeys;
  before = r.before;
  proper = r.proper;
  timely = r.timely;
  stage = staged_on m pc m.policy.waiting m.service m.accepted m.service r.stage;
}))

-- the policy gives its first entry
given_runs : (m : Machine) (pc : ℕ) (es : List Entry) (e : Entry) → m.service ≡ None → m.policy.waiting ≡ e ∷ es → (m.policy.holds ≡ true → e.deadline + 1 ≡ m.clock + m.policy.span) → Running m → Running (begun m pc es (Some (record { entry = e; start = m.clock })))
given_runs m pc es e free w on r =
    let timely : Timely m.policy.span (m.clock - 1) (e ∷ es) = subst (λ (xs : List Entry). Timely m.policy.span (m.clock - 1) xs) w (subst (λ (o : Option Service). Timely m.policy.span (base_at m.clock m.policy.span o) m.policy.waiting) free r.timely) in
    let later : (m.clock - 1) + m.policy.span ≡ (m.clock + m.policy.span) - 1 = omega (arith, r.clock_some) in
    record {
      shaped = still_shaped m.policy pc es r.shaped;
      span_fits = r.span_fits;
      banks_fit = r.banks_fit;
      clock_some = r.clock_some;
      obeys = r.obeys;
      before = r.before;
      proper = subst (λ (xs : List Entry). AllByRecursion (Proper m.chip) xs) w (subst (λ (o : Option Service). AllByRecursion (Proper m.chip) (unserved_of o m.policy.waiting)) free r.proper);
      timely = subst (λ (b : ℕ). Timely m.policy.span b es) later timely.1;
      stage = stage_begins (begun m pc es (Some (record { entry = e; start = m.clock }))) (record { entry = e; start = m.clock }) refl r.before (omega (arith, timely.0, r.clock_some)) on;
    }

-- the machine inside a tick runs
pub begins_runs : (m : Machine) (pc : ℕ) (es : List Entry) (now : Option Service) → Begins m es now → Running m → Running (begun m pc es now)
begins_runs m pc es now (running s v w is) r = same_runs m pc es now w (is ∙ sym v) r
begins_runs m pc es now (idle v w is late) r = same_runs m pc es now w (is ∙ sym v) r
begins_runs m pc es now (given e v w is on) r = subst (λ (o : Option Service). Running (begun m pc es o)) (sym is) (given_runs m pc es e v w on r)
