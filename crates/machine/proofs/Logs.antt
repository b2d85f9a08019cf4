-- Logs that grow at their end, chains cut in two, and induction along a chain.
use Rattle.std.proofs.Common.{◌≡◌, ℕ, ◌+◌, ◌⊎◌, List, [], ◌∷◌, ◌++◌, Some, None, Option, sym, refl, ap, ◌∙◌, subst, inl, inr, append_assoc, append-nil, arith}
use Rattle.rulebook.specs.declared.command.Command.{Command}
use Rattle.rulebook.proofs.Lists.{last_cut}
use Rattle.policy.specs.declared.entry.Request.{Request}
use Rattle.machine.specs.Machine.{Machine, offer, accepted, Step, Exchange, Chain, extended}
use Rattle.machine.specs.Promises.{issued, put_before, commands, passes, ticks, AcceptedIn}

-- what holds of the empty log, and at each step of the log with one exchange more, holds of every chain
chain_from : (P : List Exchange → Machine → Type 0) → ((log : List Exchange) (m : Machine) (x : Exchange) (n : Machine) → P log m → Step m x.event x.answer n → P (log ++ (x ∷ [])) n) →
    (log rest : List Exchange) (m n : Machine) → P log m → Chain m rest n → P (log ++ rest) n
chain_from P step log [] m n p c = subst (λ (l : List Exchange). P l n) (sym (append-nil log)) (subst (λ (k : Machine). P log k) c p)
chain_from P step log (x ∷ rest) m n p c =
    subst (λ (l : List Exchange). P l n) (append_assoc log (x ∷ []) rest)
    (chain_from P step (log ++ (x ∷ [])) rest c.0 n (step log m x c.0 p c.1) c.2)

pub along : (P : List Exchange → Machine → Type 0) (m : Machine) → P [] m → ((log : List Exchange) (m : Machine) (x : Exchange) (n : Machine) → P log m → Step m x.event x.answer n → P (log ++ (x ∷ [])) n) →
    (log : List Exchange) (n : Machine) → Chain m log n → P log n
along P m p step log n c = chain_from P step [] log m n p c

-- a chain cut before an exchange: the chain to there, and that step
pub record Cut (m : Machine) (before : List Exchange) (x : Exchange) : Type 0 where
  pub here : Machine
  pub to_here : Chain m before here
  pub next : Machine
  pub step : Step here x.event x.answer next

pub chain_cut : (before rest : List Exchange) (x : Exchange) (m n : Machine) → Chain m (before ++ (x ∷ rest)) n → Cut m before x
chain_cut [] rest x m n c = record { here = m; to_here = refl; next = c.0; step = c.1 }
chain_cut (y ∷ before) rest x m n c =
    let r = chain_cut before rest x c.0 n c.2 in
    record { here = r.here; to_here = (c.0, c.1, r.to_here); next = r.next; step = r.step }

-- one exchange more: its command, its tick, and what was accepted
put_last : (o : Option Command) (cs : List Command) (a : Option Command) → put_before o (extended cs a) ≡ extended (put_before o cs) a
put_last None cs a = refl
put_last (Some c) cs None = refl
put_last (Some c) cs (Some d) = refl

first_put : (a : Option Command) → put_before a [] ≡ extended [] a
first_put None = refl
first_put (Some c) = refl

pub commands_more : (log : List Exchange) (x : Exchange) → commands (log ++ (x ∷ [])) ≡ extended (commands log) (issued x.answer)
commands_more [] x = first_put (issued x.answer)
commands_more (y ∷ log) x = ap (put_before (issued y.answer)) (commands_more log x) ∙ put_last (issued y.answer) (commands log) (issued x.answer)

pub ticks_more : (log : List Exchange) (x : Exchange) → ticks (log ++ (x ∷ [])) ≡ ticks log + passes x.answer
ticks_more [] x = omega arith
ticks_more (y ∷ log) x = omega (arith, ticks_more log x)

pub accepted_longer : (log : List Exchange) (x : Exchange) (q : Request) (i d : ℕ) → AcceptedIn log q i d → AcceptedIn (log ++ (x ∷ [])) q i d
accepted_longer log x q i d a =
    (a.0, a.1 ++ (x ∷ []), ap (λ (l : List Exchange). l ++ (x ∷ [])) a.2 ∙ append_assoc a.0 (record { event = offer q; answer = accepted i d } ∷ a.1) (x ∷ []))

pub accepted_last : (log : List Exchange) (q : Request) (i d : ℕ) → AcceptedIn (log ++ (record { event = offer q; answer = accepted i d } ∷ [])) q i d
accepted_last log q i d = (log, [], refl)

pub accepted_cut : (log : List Exchange) (x : Exchange) (q : Request) (i d : ℕ) → AcceptedIn (log ++ (x ∷ [])) q i d → (x ≡ record { event = offer q; answer = accepted i d }) ⊎ AcceptedIn log q i d
accepted_cut log x q i d a = elim (last_cut log x a.0 (record { event = offer q; answer = accepted i d }) a.1 a.2) [
  | inl e ↦ inl e.1
  | inr p ↦ inr (a.0, p.0, p.1)
]
