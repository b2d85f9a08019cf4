-- Turn order leaves room, and stays sound where nothing is called.
use Rattle.std.specs.Prelude.{ℕ, ◌+◌, ◌≤◌, List, [], ◌∷◌}
use Rattle.std.proofs.Common.{arith}
use Rattle.policy.specs.declared.entry.Entry.{Entry}
use Rattle.policy.specs.Meaning.{Timely}
use Rattle.policy.specs.Turns.{Apart, TurnSound}

-- deadlines a span apart leave room for the entries before
pub apart_timely : (w b low : ℕ) (es : List Entry) → b ≤ low → Apart w low es → Timely w b es
apart_timely w b low [] h a = tt
apart_timely w b low (e ∷ es) h a = (omega (arith, a.0), apart_timely w (b + w) e.deadline es (omega (arith, a.0)) a.1)

-- soundness lasts while the clock goes on, and where the base falls
pub turn_shortened : (w n c b d a : ℕ) (es : List Entry) → c ≤ d → d ≤ a + 1 → a ≤ b → TurnSound w n c b es → TurnSound w n d a es
turn_shortened w n c b d a es h k l s = record {
  next = s.next;
  started = omega (arith, s.started);
  next_late = omega (arith, s.base_before);
  next_soon = omega (arith, s.next_soon);
  base_before = omega (arith, s.base_before);
  apart = s.apart;
  owned = s.owned;
}

-- nothing waits, and nothing has come yet
pub turn_fresh : (w n : ℕ) → 1 ≤ w → TurnSound w n 1 0 []
turn_fresh w n o = record {
  next = 0;
  started = omega arith;
  next_late = omega arith;
  next_soon = omega arith;
  base_before = omega arith;
  apart = tt;
  owned = λ r h. tt;
}
