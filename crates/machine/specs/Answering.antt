-- No machine that a chain reaches is ever at a loss.
use Rattle.std.specs.Prelude.{◌≡◌, ◌≤◌, List, None, Option}
use Rattle.rulebook.specs.declared.command.Command.{Command}
use Rattle.policy.specs.declared.entry.Entry.{Entry}
use Rattle.policy.specs.Meaning.{Meaning, Turned}
use Rattle.machine.specs.Machine.{Machine, Ticked, Exchange, Chain}

-- Up to the last cycle a tick has an answer and a machine after it, whatever turn the policy takes where it is asked for one.
abbrev pub AlwaysAnswers : Machine → Type 0
AlwaysAnswers m = (log : List Exchange) (n : Machine) → Chain m log n → n.clock ≤ n.last → (given : Option Entry) (after : Meaning) → (n.service ≡ None → Turned n.policy n.clock given after) →
    (answer : Option Command) × (k : Machine) × Ticked n answer k
