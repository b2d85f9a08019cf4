-- What comes into service in a cycle, and what the cycle leaves.
use Rattle.std.specs.Prelude.{◌≡◌, ℕ, ◌+◌, ◌-◌, Some, None, Option}
use Rattle.rulebook.specs.declared.command.Command.{Command}
use Rattle.policy.specs.declared.entry.Entry.{Entry}
use Rattle.policy.specs.Meaning.{Meaning, Turned, base_after}
use Rattle.controller.specs.declared.stage.Stage.{Stage}
use Rattle.controller.specs.declared.stage.Stage.TheVariants.{Idle, Serving}
use Rattle.controller.specs.declared.session.Session.{Session}
use Rattle.controller.specs.Engine.{sent, engine_after}

-- The stage once the policy gave an entry in this cycle, or none.
abbrev pub stage_from : ℕ → Option Entry → Stage
stage_from clock None = Idle
stage_from clock (Some e) = Serving (record { entry = e; start = clock })

-- With nothing in service the policy is asked in this cycle, and what it gives goes into service; a service that runs goes on, and the policy is left alone.
abbrev pub Begins : {P : Type 0} → (P → Meaning) → (P → ℕ → ℕ → Type 0) → ℕ → Stage → P → Stage → P → Type 0
Begins meaning sound clock Idle p g p' =
    (given : Option Entry) × (g ≡ stage_from clock given) × (sound p clock (clock - 1) → Turned (meaning p) clock given (meaning p') × sound p' (clock + 1) (base_after (meaning p).span clock given))
Begins meaning sound clock (Serving v) p g p' = (g ≡ Serving v) × (p' ≡ p)

-- A cycle passes, so that session s becomes t: what is in service, or has just come into it, sends the command that the engine answers, the clock rises by one, and nothing else changes.
pub record Passes {P : Type 0} (meaning : P → Meaning) (sound : P → ℕ → ℕ → Type 0) (s : Session P) (answer : Option Command) (t : Session P) : Type 0 where
  pub stage : Stage
  pub begins : Begins meaning sound s.clock s.engine.stage s.policy stage t.policy
  pub answer_is : answer ≡ sent s.board.sheet s.board.chip (meaning t.policy).holds s.clock (record { stage = stage; book = s.engine.book })
  pub engine_is : t.engine ≡ engine_after s.board.sheet s.board.chip (meaning t.policy).holds s.clock (record { stage = stage; book = s.engine.book })
  pub clock_rises : t.clock ≡ s.clock + 1
  pub board_same : t.board ≡ s.board
  pub last_same : t.last ≡ s.last
  pub counts_same : t.counts ≡ s.counts
