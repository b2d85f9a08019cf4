-- Every machine that a chain reaches under turn order runs in turn.
use Rattle.std.proofs.Common.{◌≡◌, ℕ, List, [], ◌∷◌, sym, subst}
use Rattle.sheet.specs.declared.accepted.Sheet.{Sheet}
use Rattle.sheet.specs.declared.geometry.Chip.{Chip}
use Rattle.policy.specs.Meaning.{Meaning, turn_order}
use Rattle.machine.specs.Machine.{Machine, opened, Event, offer, tick, Answer, accepted, ticked, refused, Step, Exchange, Chain}
use Rattle.machine.specs.Opens.{Fits}
use Rattle.machine.proofs.Steps.{is_joined, counted_in, begun, halves}
use Rattle.machine.proofs.Running.{opened_runs, accepted_runs}
use Rattle.machine.proofs.Serving.{Runs, ticked_runs}
use Rattle.machine.proofs.Told.{Constant, constant_changed, constant_sent, constant_opened}
use Rattle.machine.proofs.Turning.{Turning, opened_turns, accepted_turns, ticked_turns}

pub record Reached (start m : Machine) : Type 0 where
  pub runs : Runs m
  pub turns : Turning m
  pub constant : Constant start m

pub opened_reached : (s : Sheet) (k : Chip) (last : ℕ) (p : Meaning) → Fits s k last p → p.order ≡ turn_order → Reached (opened s k last p) (opened s k last p)
opened_reached s k last p f o = record { runs = (opened_runs s k last p f, tt); turns = opened_turns s k last p f o; constant = constant_opened (opened s k last p) }

pub reached_step : (start m : Machine) (e : Event) (a : Answer) (n : Machine) → Reached start m → Step m e a n → Reached start n
reached_step start m (offer q) (accepted number deadline) n l s = subst (Reached start) (sym (is_joined m q number deadline n s)) (record {
  runs = (accepted_runs m q number deadline n s l.runs.0, l.runs.1);
  turns = accepted_turns m q number deadline n s l.runs.0 l.turns;
  constant = constant_changed start m m.clock n.policy.waiting m.service (counted_in m.accepted q.requester) l.constant;
})
reached_step start m (offer q) (refused why) n l s = subst (Reached start) (sym s.1) l
reached_step start m (offer q) (ticked c) n l s = absurd s
reached_step start m tick (ticked c) n l s =
    let h = halves m c n s in
    record {
      runs = ticked_runs m c n h l.runs.0;
      turns = ticked_turns m c n h l.runs.0 l.turns;
      constant = subst (Constant start) (sym h.ends) (constant_sent start (begun m h.policy_clock h.entries h.now) c n.service (constant_changed start m h.policy_clock h.entries h.now m.accepted l.constant));
    }
reached_step start m tick (refused why) n l s = subst (Reached start) (sym s.2) l
reached_step start m tick (accepted number deadline) n l s = absurd s

pub reached : (start m : Machine) (log : List Exchange) (n : Machine) → Reached start m → Chain m log n → Reached start n
reached start m [] n l c = subst (Reached start) c l
reached start m (x ∷ log) n l c = reached start c.0 log n (reached_step start m x.event x.answer c.0 l c.1) c.2
