-- First come stays sound where nothing is called.
use Rattle.std.specs.Prelude.{ℕ, ◌+◌, ◌≤◌, List, [], ◌∷◌}
use Rattle.std.proofs.Common.{arith}
use Rattle.policy.specs.declared.entry.Entry.{Entry}
use Rattle.policy.specs.Meaning.{Timely}
use Rattle.policy.specs.FirstCome.{FirstSound}

-- what leaves room from a base on leaves room from an earlier one
pub timely_sooner : (w a b : ℕ) (es : List Entry) → a ≤ b → Timely w b es → Timely w a es
timely_sooner w a b [] h t = tt
timely_sooner w a b (e ∷ es) h t = (omega (arith, t.0), timely_sooner w (a + w) (b + w) es (omega arith) t.1)

-- soundness lasts while the clock goes on, and where the base falls
pub first_shortened : (w c b d a : ℕ) (es : List Entry) → c ≤ d → d ≤ a + 1 → a ≤ b → FirstSound w c b es → FirstSound w d a es
first_shortened w c b d a es h k l s = record {
  started = omega (arith, s.started);
  base_late = k;
  base_soon = omega (arith, s.base_soon);
  in_time = timely_sooner w a b es l s.in_time;
}
