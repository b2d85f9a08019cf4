-- Every chain keeps both: the machine runs, and its log is told.
use Rattle.std.proofs.Common.{ℕ, List, [], ◌∷◌, ◌++◌, sym, subst}
use Rattle.sheet.specs.declared.accepted.Sheet.{Sheet}
use Rattle.sheet.specs.declared.geometry.Chip.{Chip}
use Rattle.policy.specs.Meaning.{Meaning}
use Rattle.machine.specs.Machine.{Machine, opened, Event, offer, tick, Answer, accepted, ticked, refused, Step, Exchange, Chain}
use Rattle.machine.specs.Opens.{Fits}
use Rattle.machine.proofs.Steps.{is_joined, halves}
use Rattle.machine.proofs.Running.{opened_runs, accepted_runs}
use Rattle.machine.proofs.Serving.{Runs, ticked_runs}
use Rattle.machine.proofs.Logs.{along}
use Rattle.machine.proofs.Told.{Told, opened_told, refused_told}
use Rattle.machine.proofs.Sending.{ticked_told}
use Rattle.machine.proofs.Accepting.{accepted_told}

-- a running machine and what it keeps of its log
pub record Logged (start : Machine) (log : List Exchange) (m : Machine) : Type 0 where
  pub runs : Runs m
  pub told : Told start log m

-- each call keeps it all
logged_step : (start : Machine) (log : List Exchange) (m : Machine) (e : Event) (a : Answer) (n : Machine) → Logged start log m → Step m e a n → Logged start (log ++ (record { event = e; answer = a } ∷ [])) n
logged_step start log m (offer q) (accepted number deadline) n l s = record {
  runs = subst Runs (sym (is_joined m q number deadline n s)) (accepted_runs m q number deadline n s l.runs.0, l.runs.1);
  told = accepted_told start log m q number deadline n s l.told;
}
logged_step start log m (offer q) (refused why) n l s = subst (λ (k : Machine). Logged start (log ++ (record { event = offer q; answer = refused why } ∷ [])) k) (sym s.1) (record { runs = l.runs; told = refused_told start log m (offer q) why l.told })
logged_step start log m (offer q) (ticked c) n l s = absurd s
logged_step start log m tick (ticked c) n l s = record {
  runs = ticked_runs m c n (halves m c n s) l.runs.0;
  told = ticked_told start log m c n (halves m c n s) l.told;
}
logged_step start log m tick (refused why) n l s = subst (λ (k : Machine). Logged start (log ++ (record { event = tick; answer = refused why } ∷ [])) k) (sym s.2) (record { runs = l.runs; told = refused_told start log m tick why l.told })
logged_step start log m tick (accepted number deadline) n l s = absurd s

pub logged : (s : Sheet) (k : Chip) (last : ℕ) (p : Meaning) → Fits s k last p → (log : List Exchange) (n : Machine) → Chain (opened s k last p) log n → Logged (opened s k last p) log n
logged s k last p f = along (Logged (opened s k last p)) (opened s k last p)
    (record { runs = (opened_runs s k last p f, tt); told = opened_told s k last p f.nothing_waits })
    (λ log m x n l step. logged_step (opened s k last p) log m x.event x.answer n l step)
