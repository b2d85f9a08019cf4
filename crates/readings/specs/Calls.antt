-- Calls that are answered in one way only.
use Rattle.std.specs.Prelude.{◌≡◌, ℕ, zero, suc, List, ◌∷◌, Some, None}
use Rattle.rulebook.specs.declared.command.Command.{Command}
use Rattle.policy.specs.declared.entry.Request.{Request}
use Rattle.machine.specs.Machine.{Machine, offer, tick, Answer, ticked, Exchange, Chain}
use Rattle.machine.specs.Determined.{events}

-- An offer and its answer.
abbrev pub offered : Request → Answer → Exchange
offered q answer = record { event = offer q; answer = answer }

-- A tick that sends this command.
abbrev pub sends : Command → Exchange
sends c = record { event = tick; answer = ticked (Some c) }

-- So many ticks that send nothing, and then a log.
abbrev pub quiet : ℕ → List Exchange → List Exchange
quiet zero log = log
quiet (suc n) log = record { event = tick; answer = ticked None } ∷ quiet n log

-- The calls of a log are answered as it says from this machine on: there is such a chain, and every chain of the same calls has the same answers and ends in the same machine.
pub record AnsweredOnly (m : Machine) (log : List Exchange) : Type 0 where
  pub ends : Machine
  pub so : Chain m log ends
  pub only : (other : List Exchange) (n : Machine) → Chain m other n → events other ≡ events log → (other ≡ log) × (n ≡ ends)
