-- Under an order that says who is served next, what is called decides what is answered.
use Rattle.std.specs.Prelude.{◌≡◌, ◌≢◌, List, [], ◌∷◌}
use Rattle.policy.specs.Meaning.{free}
use Rattle.machine.specs.Machine.{Machine, Event, Exchange, Chain}

-- What was called in a log, oldest first.
abbrev pub events : List Exchange → List Event
events [] = []
events (x ∷ log) = x.event ∷ events log

-- Under first come and under turn order, two chains of the same calls have the same answers and lead to the same machine.
abbrev pub AnswersDetermined : Machine → Type 0
AnswersDetermined m = m.policy.order ≢ free → (log log' : List Exchange) (n n' : Machine) → Chain m log n → Chain m log' n' →
    events log ≡ events log' → (log ≡ log') × (n ≡ n')
