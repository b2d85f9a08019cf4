-- An acceptance in the log: its number is new, and its entry is unserved with its deadline.
use Rattle.std.proofs.Common.{◌≡◌, ℕ, ◌+◌, ◌<◌, ◌≤◌, eqb, List, [], ◌∷◌, ◌++◌, sym, refl, ap, ◌∙◌, subst, inl, inr, arith}
use Rattle.std.proofs.ByRecursion.{All-weaker}
use Rattle.std.proofs.lemmas.Bool.{eq-eqb, cond-true, cond_both}
use Rattle.policy.specs.declared.entry.Request.{Request}
use Rattle.policy.specs.declared.entry.Entry.{Entry}
use Rattle.machine.specs.Machine.{Machine, entry_for, Accepted, offer, accepted, Exchange}
use Rattle.machine.proofs.Lists.{all_both}
use Rattle.machine.proofs.Steps.{is_joined, counted_in, joined_to}
use Rattle.machine.proofs.Running.{unserved_of, unserved, all_unserved_joined}
use Rattle.machine.proofs.Logs.{commands_more, ticks_more, accepted_last, accepted_cut}
use Rattle.machine.proofs.Ledger.{Balanced, balanced_joined}
use Rattle.machine.proofs.Told.{Origin, Due, Numbered, constant_changed, Told, longer_origin}

-- an entry of the log has a number below its requester's count
below_count : (names : ℕ → ℕ → ℕ) (log : List Exchange) (counts : ℕ → ℕ) (e : Entry) → Numbered log counts → Origin names log e → e.number < counts e.requester
below_count names log counts e n o = subst (λ (r : ℕ). e.number < counts r) (sym o.requester_is) (n o.request e.number e.deadline o.was_accepted)

-- the exchange of an acceptance says which
same_acceptance : (q p : Request) (i j d f : ℕ) → ◌≡◌ {A = Exchange} (record { event = offer q; answer = accepted i d }) (record { event = offer p; answer = accepted j f }) → (q ≡ p) × (i ≡ j) × (d ≡ f)
same_acceptance q p i j d f e =
    let a : offer q ≡ offer p = ap (λ (x : Exchange). x.event) e in
    let b : accepted i d ≡ accepted j f = ap (λ (x : Exchange). x.answer) e in
    (cc, cc, cc)

-- an old entry under a log with one more acceptance, whose number is new
old_due : (log : List Exchange) (q : Request) (number deadline : ℕ) (counts : ℕ → ℕ) (e : Entry) → number ≡ counts q.requester → e.number < counts e.requester → Due log e → Due (log ++ (record { event = offer q; answer = accepted number deadline } ∷ [])) e
old_due log q number deadline counts e is below h p i d a whose which = elim (accepted_cut log (record { event = offer q; answer = accepted number deadline }) p i d a) [
  | inl w ↦
      let s = same_acceptance q p number i deadline d w in
      let same : counts e.requester ≡ counts q.requester = ap counts (whose ∙ sym (ap (λ (x : Request). x.requester) s.0)) in
      absurd (omega (arith, s.1))
  | inr b ↦ h p i d b whose which
]

new_due : (log : List Exchange) (q : Request) (number deadline : ℕ) (counts : ℕ → ℕ) (e : Entry) → number ≡ counts q.requester → e.requester ≡ q.requester → e.number ≡ number → e.deadline ≡ deadline → Numbered log counts → Due (log ++ (record { event = offer q; answer = accepted number deadline } ∷ [])) e
new_due log q number deadline counts e is mine name due n p i d a whose which = elim (accepted_cut log (record { event = offer q; answer = accepted number deadline }) p i d a) [
  | inl w ↦ due ∙ (same_acceptance q p number i deadline d w).2
  | inr b ↦
      let same : counts p.requester ≡ counts q.requester = ap counts (sym whose ∙ mine) in
      absurd (omega (arith, n p i d b))
]

counted_up : (counts : ℕ → ℕ) (r s : ℕ) → counts s ≤ counted_in counts r s
counted_up counts r s = cond_both (eqb s r) (counts s + 1) (counts s) (λ (n : ℕ). counts s ≤ n) (λ _. omega arith) (λ _. omega arith)

more_numbered : (log : List Exchange) (q : Request) (number deadline : ℕ) (counts : ℕ → ℕ) → number ≡ counts q.requester → Numbered log counts → Numbered (log ++ (record { event = offer q; answer = accepted number deadline } ∷ [])) (counted_in counts q.requester)
more_numbered log q number deadline counts is n p i d a = elim (accepted_cut log (record { event = offer q; answer = accepted number deadline }) p i d a) [
  | inl w ↦
      let s = same_acceptance q p number i deadline d w in
      subst (λ (r : ℕ). i < counted_in counts q.requester r) (ap (λ (x : Request). x.requester) s.0)
      (omega (arith, s.1, cond-true (eqb q.requester q.requester) (counts q.requester + 1) (counts q.requester) (eq-eqb q.requester q.requester refl)))
  | inr b ↦ omega (arith, n p i d b, counted_up counts q.requester p.requester)
]

-- an acceptance
joined_told : (start : Machine) (log : List Exchange) (m : Machine) (q : Request) (number deadline : ℕ) (n : Machine) → Accepted m q number deadline n → Told start log m →
    Told start (log ++ (record { event = offer q; answer = accepted number deadline } ∷ [])) (joined_to m q.requester n.policy.waiting)
joined_told start log m q number deadline n a t =
    let x : Exchange = record { event = offer q; answer = accepted number deadline } in
    let names = m.policy.bank_name in
    let e : Entry = entry_for m.policy q number a.kind deadline in
    let j = a.taken.joins in
    record {
      constant = constant_changed start m m.clock n.policy.waiting m.service (counted_in m.accepted q.requester) t.constant;
      clock_is = omega (arith, t.clock_is, ticks_more log x);
      trace_is = t.trace_is ∙ sym (commands_more log x);
      origin = all_unserved_joined (Origin names (log ++ (x ∷ []))) m q number deadline n a
          (record { request = q; was_accepted = accepted_last log q number deadline; requester_is = refl; kind_is = sym a.kind_is; bank_is = refl; row_is = refl; column_is = refl })
          (All-weaker (Origin names log) (Origin names (log ++ (x ∷ []))) (longer_origin names log x) (unserved m) t.origin);
      balanced = subst (λ (es : List Entry). Balanced (unserved_of m.service es) m.trace (counted_in m.accepted q.requester)) (sym j.3)
          (balanced_joined m.service j.0 e j.1 m.trace m.accepted a.number_is (subst (λ (es : List Entry). Balanced (unserved_of m.service es) m.trace m.accepted) j.2 t.balanced));
      numbered = more_numbered log q number deadline m.accepted a.number_is t.numbered;
      due = all_unserved_joined (Due (log ++ (x ∷ []))) m q number deadline n a
          (new_due log q number deadline m.accepted e a.number_is refl refl refl t.numbered)
          (all_both (Origin names log) (Due log) (Due (log ++ (x ∷ []))) (λ y o h. old_due log q number deadline m.accepted y a.number_is (below_count names log m.accepted y t.numbered o) h) (unserved m) t.origin t.due);
    }

pub accepted_told : (start : Machine) (log : List Exchange) (m : Machine) (q : Request) (number deadline : ℕ) (n : Machine) → Accepted m q number deadline n → Told start log m →
    Told start (log ++ (record { event = offer q; answer = accepted number deadline } ∷ [])) n
accepted_told start log m q number deadline n a t = subst (λ (k : Machine). Told start (log ++ (record { event = offer q; answer = accepted number deadline } ∷ [])) k) (sym (is_joined m q number deadline n a)) (joined_told start log m q number deadline n a t)
