-- A tick of a session is a step of its machine.
use Rattle.std.proofs.Common.{◌≡◌, ℕ, ◌+◌, ◌-◌, ◌≤◌, Bool, List, Some, None, Option, sym, refl, ap, ◌∙◌, subst, arith}
use Rattle.std.specs.List.{AllByRecursion}
use Rattle.rulebook.specs.declared.command.Command.{Command}
use Rattle.rulebook.specs.Summary.{Summarises}
use Rattle.policy.specs.declared.entry.Entry.{Entry}
use Rattle.policy.specs.Meaning.{Meaning, WellShaped, Turned, base_after}
use Rattle.machine.specs.Machine.{Service as Served, Machine, base_at, InService, Goes, extended, Ticked, tick, ticked}
use Rattle.machine.specs.Spans.{WithinSpan}
use Rattle.machine.proofs.Stages.{Proper}
use Rattle.machine.proofs.Running.{unserved_of}
use Rattle.controller.specs.declared.stage.Stage.{Stage}
use Rattle.controller.specs.declared.stage.Stage.TheVariants.{Idle, Serving}
use Rattle.controller.specs.declared.stage.RowState.{RowState}
use Rattle.controller.specs.declared.stage.RowState.TheVariants.{Here, Other, Closed}
use Rattle.controller.specs.declared.engine.Engine.{Engine}
use Rattle.controller.specs.declared.session.Session.{Session}
use Rattle.controller.specs.Counts.{count_of}
use Rattle.controller.specs.Engine.{state_of, book_in, stage_in, sent, engine_after}
use Rattle.controller.specs.Session.{service_of, machine, Sound}
use Rattle.controller.specs.Ticking.{stage_from, Begins, Passes}
use Rattle.controller.proofs.Chained.{reached_more, known, spans}
use Rattle.controller.proofs.Going.{Fit, gone}

-- what is known once it is settled what is in service in a cycle: how it came there, that the policy is as it was made, that it can be served, and that the policy is sound for the next cycle, whether the service goes on or ends
record Begun {P : Type 0} (meaning : P → Meaning) (sound : P → ℕ → ℕ → Type 0) (m : Machine) (p' : P) (g : Stage) : Type 0 where
  pub in_service : InService m m.service (service_of g) (meaning p')
  pub holds_same : (meaning p').holds ≡ m.policy.holds
  pub fit : Fit m.chip g
  pub goes_on : sound p' (m.clock + 1) (base_at (m.clock + 1) (meaning p').span (service_of g))
  pub ends : sound p' (m.clock + 1) (base_at (m.clock + 1) (meaning p').span None)

-- what follows a cycle is the stage that it had, or none
left_over : (Q : Stage → Type 0) (g : Stage) (row : RowState) (o : Option Command) → Q g → Q Idle → Q (stage_in g row o)
left_over Q Idle row o stays ends = ends
left_over Q (Serving v) Here None stays ends = stays
left_over Q (Serving v) Here (Some c) stays ends = ends
left_over Q (Serving v) Other o stays ends = stays
left_over Q (Serving v) Closed o stays ends = stays

module _ {P : Type 0} (meaning : P → Meaning) (sound : P → ℕ → ℕ → Type 0) (shaped : (p : P) → WellShaped (meaning p)) (shortened : (p : P) (c b d a : ℕ) → c ≤ d → d ≤ a + 1 → a ≤ b → sound p c b → sound p d a) where
  -- a turn was taken
  turned : (m : Machine) (p p' : P) (g : Stage) (o : Option Entry) → m.service ≡ None → meaning p ≡ m.policy → g ≡ stage_from m.clock o → Turned m.policy m.clock o (meaning p') → sound p' (m.clock + 1) (base_after m.policy.span m.clock o) → AllByRecursion (Proper m.chip) m.policy.waiting → Begun meaning sound m p' g
  turned m p p' g None none is from t s all = subst (λ (x : Stage). Begun meaning sound m p' x) (sym from) (record {
    in_service = subst (λ (o : Option Served). InService m o None (meaning p')) (sym none) (None, t, refl);
    holds_same = t.0.holds_same;
    fit = tt;
    goes_on = subst (sound p' (m.clock + 1)) (omega arith) s;
    ends = subst (sound p' (m.clock + 1)) (omega arith) s;
  })
  turned m p p' g (Some e) none is from t s all =
      let span_some = (shaped p').span_bound in
      subst (λ (x : Stage). Begun meaning sound m p' x) (sym from) (record {
        in_service = subst (λ (o : Option Served). InService m o (Some (record { entry = e; start = m.clock })) (meaning p')) (sym none) (Some e, t, refl);
        holds_same = t.0.holds_same;
        fit = (subst (λ (es : List Entry). AllByRecursion (Proper m.chip) es) t.2 all).0;
        goes_on = subst (λ (x : ℕ). sound p' (m.clock + 1) ((m.clock + x) - 1)) (sym t.0.span_same) s;
        ends = shortened p' (m.clock + 1) ((m.clock + m.policy.span) - 1) (m.clock + 1) ((m.clock + 1) - 1) (omega arith) (omega arith) (omega (arith, span_some, t.0.span_same)) s;
      })

  begun : (m : Machine) (p p' : P) (was g : Stage) → m.service ≡ service_of was → meaning p ≡ m.policy → Begins meaning sound m.clock was p g p' → sound p m.clock (base_at m.clock m.policy.span (service_of was)) → WithinSpan m.clock m.policy.span (service_of was) → AllByRecursion (Proper m.chip) (unserved_of (service_of was) m.policy.waiting) → Begun meaning sound m p' g
  begun m p p' Idle g served is b s w all =
      let f = b.2 s in
      turned m p p' g b.0 served is b.1
      (subst (λ (x : Meaning). Turned x m.clock b.0 (meaning p')) is f.0)
      (subst (λ (x : Meaning). sound p' (m.clock + 1) (base_after x.span m.clock b.0)) is f.1) all
  begun m p p' (Serving v) g served is b s w all =
      let same : meaning p' ≡ m.policy = ap meaning b.1 ∙ is in
      let now : sound p' m.clock ((v.start + m.policy.span) - 1) = subst (λ (x : P). sound x m.clock ((v.start + m.policy.span) - 1)) (sym b.1) s in
      let on : sound p' (m.clock + 1) ((v.start + m.policy.span) - 1) = shortened p' m.clock ((v.start + m.policy.span) - 1) (m.clock + 1) ((v.start + m.policy.span) - 1) (omega arith) (omega (arith, w)) (omega arith) now in
      subst (λ (x : Stage). Begun meaning sound m p' x) (sym b.0) (record {
        in_service = subst (λ (o : Option Served). InService m o (service_of (Serving v)) (meaning p')) (sym served) (refl, same);
        holds_same = ap (λ (x : Meaning). x.holds) same;
        fit = all.0;
        goes_on = subst (λ (x : Meaning). sound p' (m.clock + 1) ((v.start + x.span) - 1)) (sym same) on;
        ends = shortened p' m.clock ((v.start + m.policy.span) - 1) (m.clock + 1) ((m.clock + 1) - 1) (omega arith) (omega arith) (omega (arith, w)) now;
      })

  -- where the cycle's answer and what it leaves are told by the engine, that is a tick of the machine, and the session is sound again
  told : (s t : Session P) (g : Stage) (o : Option Command) (e : Engine) (h : List Command) → Sound meaning sound s h → s.clock ≤ s.last → Begun meaning sound (machine meaning s h) t.policy g →
      o ≡ sent s.board.sheet s.board.chip (meaning s.policy).holds s.clock (record { stage = g; book = s.engine.book }) → e ≡ engine_after s.board.sheet s.board.chip (meaning s.policy).holds s.clock (record { stage = g; book = s.engine.book }) →
      machine meaning t (extended h o) ≡ record { sheet = s.board.sheet; chip = s.board.chip; last = s.last; policy = meaning t.policy; clock = s.clock + 1; service = service_of e.stage; accepted = count_of s.counts.each; trace = extended h o } →
      t.engine ≡ e → Ticked (machine meaning s h) o (machine meaning t (extended h o)) × Sound meaning sound t (extended h o)
  told s t g o e h z running b o_is e_is left same =
      let m : Machine = machine meaning s h in
      let r = (known m z.reached).runs.0 in
      let w = gone m g s.engine.book b.fit z.summarised r.obeys in
      let goes : Goes m (service_of g) o (service_of e.stage) =
      subst (λ (x : Engine). Goes m (service_of g) o (service_of x.stage)) (sym e_is)
      (subst (λ (y : Option Command). Goes m (service_of g) y (service_of (stage_in g (state_of g s.engine.book) (sent s.board.sheet s.board.chip (meaning s.policy).holds s.clock (record { stage = g; book = s.engine.book }))))) (sym o_is) w.0) in
      let summary : Summarises (extended h o) e.book =
      subst (λ (x : Engine). Summarises (extended h o) x.book) (sym e_is)
      (subst (λ (y : Option Command). Summarises (extended h y) (book_in g (state_of g s.engine.book) s.board.sheet s.board.chip (meaning s.policy).holds s.clock s.engine.book)) (sym o_is) w.1) in
      let next : sound t.policy (s.clock + 1) (base_at (s.clock + 1) (meaning t.policy).span (service_of e.stage)) =
      subst (λ (x : Engine). sound t.policy (s.clock + 1) (base_at (s.clock + 1) (meaning t.policy).span (service_of x.stage))) (sym e_is)
      (left_over (λ (y : Stage). sound t.policy (s.clock + 1) (base_at (s.clock + 1) (meaning t.policy).span (service_of y))) g (state_of g s.engine.book) (sent s.board.sheet s.board.chip (meaning s.policy).holds s.clock (record { stage = g; book = s.engine.book })) b.goes_on b.ends) in
      let step : Ticked m o (machine meaning t (extended h o)) = subst (λ (n : Machine). Ticked m o n) (sym left) (record {
        running = running;
        now_served = service_of g;
        in_service = b.in_service;
        goes = goes;
        clock_rises = refl;
        trace_grows = refl;
        rest_same = (refl, refl, refl, refl);
      }) in (
        step,
        record {
          summarised = subst (λ (x : Engine). Summarises (extended h o) x.book) (sym same) summary;
          policy_sound = subst (λ (n : Machine). sound t.policy n.clock (base_at n.clock n.policy.span n.service)) (sym left) next;
          reached = reached_more m z.reached (record { event = tick; answer = ticked o }) (machine meaning t (extended h o)) step;
        },
      )

  pub steps : (s t : Session P) (o : Option Command) → s.clock ≤ s.last → Passes meaning sound s o t → (h : List Command) → Sound meaning sound s h → Ticked (machine meaning s h) o (machine meaning t (extended h o)) × Sound meaning sound t (extended h o)
  steps s t o running x h z =
      let m : Machine = machine meaning s h in
      let k = known m z.reached in
      let b = begun m s.policy t.policy s.engine.stage x.stage refl refl x.begins z.policy_sound (spans m z.reached) k.runs.0.proper in
      let g : Engine = record { stage = x.stage; book = s.engine.book } in
      told s t x.stage o t.engine h z running b
      (x.answer_is ∙ ap (λ (y : Bool). sent s.board.sheet s.board.chip y s.clock g) b.holds_same)
      (x.engine_is ∙ ap (λ (y : Bool). engine_after s.board.sheet s.board.chip y s.clock g) b.holds_same)
      (λ i. record { sheet = (x.board_same i).sheet; chip = (x.board_same i).chip; last = x.last_same i; policy = meaning t.policy; clock = x.clock_rises i; service = service_of t.engine.stage; accepted = count_of (x.counts_same i).each; trace = extended h o })
      refl
