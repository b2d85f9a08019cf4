-- What a caller gets of the clauses of a policy's calls, whatever was answered.
use Rattle.std.proofs.Common.{◌≡◌, ℕ, IfOk, Some, None, Ok, Err, Option, Result, sym, subst, MatchResult}
use Rattle.policy.specs.declared.entry.Entry.{Entry}
use Rattle.policy.specs.Meaning.{Meaning, SameShape, Turned}

-- an offer leaves what was sound sound, taken or refused
pub sound_after : {P : Type 0} (S : P → Type 0) (A B E : Type 0) (T : ℕ → Type 0) (p q : P) (r : Result ℕ E) → MatchResult r (λ _. A) (λ _. (q ≡ p) × B) → (S p → IfOk r (λ d. T d × S q)) → S p → S q
sound_after S A B E T p q (Ok d) refused taken s = (taken s).1
sound_after S A B E T p q (Err e) refused taken s = subst S (sym refused.0) s

-- a turn keeps the shape, whatever it gives
pub shape_after : (m : Meaning) (c : ℕ) (o : Option Entry) (n : Meaning) → Turned m c o n → SameShape m n
shape_after m c None n t = t.0
shape_after m c (Some e) n t = t.0
