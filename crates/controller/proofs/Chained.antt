-- What is known of a machine that calls lead to.
use Rattle.std.proofs.Common.{ℕ, ◌<◌, ◌≤◌, List, [], ◌∷◌, ◌++◌, sym, refl, subst, arith}
use Rattle.machine.specs.Machine.{Machine, opened, Step, Exchange, Chain}
use Rattle.machine.specs.Spans.{WithinSpan}
use Rattle.machine.proofs.Logged.{Logged, logged}
use Rattle.machine.proofs.Spans.{in_span}
use Rattle.machine.proofs.Counted.{numbers_small}
use Rattle.controller.specs.Session.{Reached}

-- one call more at the end of a chain
chain_more : (m : Machine) (log : List Exchange) (n : Machine) (x : Exchange) (k : Machine) → Chain m log n → Step n x.event x.answer k → Chain m (log ++ (x ∷ [])) k
chain_more m [] n x k c s = (k, subst (λ (u : Machine). Step u x.event x.answer k) (sym c) s, refl)
chain_more m (y ∷ log) n x k c s = (c.0, c.1, chain_more c.0 log n x k c.2 s)

pub reached_more : (m : Machine) → Reached m → (x : Exchange) (n : Machine) → Step m x.event x.answer n → Reached n
reached_more m r x n s = record {
  sheet = r.sheet;
  chip = r.chip;
  last = r.last;
  policy = r.policy;
  fits = r.fits;
  log = r.log ++ (x ∷ []);
  chain = chain_more (opened r.sheet r.chip r.last r.policy) r.log m x n r.chain s;
}

-- what the machine's own proofs know of it
pub known : (m : Machine) (r : Reached m) → Logged (opened r.sheet r.chip r.last r.policy) r.log m
known m r = logged r.sheet r.chip r.last r.policy r.fits r.log m r.chain

pub spans : (m : Machine) → Reached m → WithinSpan m.clock m.policy.span m.service
spans m r = in_span r.sheet r.chip r.last r.policy r.fits r.log m r.chain

-- a number fits 32 bits, and so does the next one
pub count_small : (m : Machine) → Reached m → m.clock ≤ 4000000001 → (q : ℕ) → m.accepted q < 4294967295
count_small m r c q = omega (arith, numbers_small r.sheet r.chip r.last r.policy r.fits r.log m r.chain q, (known m r).told.clock_is)
