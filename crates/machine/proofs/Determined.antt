-- The same calls are answered alike: each step of a machine with a named order has one answer and one machine after it.
use Rattle.std.proofs.Common.{◌≡◌, ℕ, ◌+◌, true, ◌≢◌, List, [], ◌∷◌, ◌++◌, length, Some, None, Option, sym, refl, ap, ◌∙◌, subst, arith}
use Rattle.std.specs.List.{insert}
use Rattle.rulebook.specs.declared.command.Command.{Command}
use Rattle.rulebook.specs.declared.command.Kind.{Kind}
use Rattle.policy.specs.declared.entry.Request.{Request}
use Rattle.policy.specs.declared.entry.Entry.{Entry}
use Rattle.policy.specs.Meaning.{Order, free, first_come, turn_order, Meaning, SameShape, Timely, due_before, JoinsBy, IdleBy, Turned}
use Rattle.machine.specs.Machine.{Service, Machine, opened, entry_for, base, Accepted, Ticked, InService, Goes, stays_after, started, extended, Event, offer, tick, Answer, accepted, ticked, refused, Step, Exchange, Chain}
use Rattle.machine.specs.Determined.{events, AnswersDetermined}
use Rattle.machine.specs.Opens.{WheneverOpened}
use Rattle.machine.proofs.Steps.{reshaped, is_reshaped, is_joined, joined_to}

-- a policy has a named order, and holds if that is turn order
record Named (p : Meaning) : Type 0 where
  pub named : p.order ≢ free
  pub turns_hold : p.order ≡ turn_order → p.holds ≡ true

still_named : (p n : Meaning) → SameShape p n → Named p → Named n
still_named p n s d = subst Named (sym (is_reshaped p n s)) (record { named = d.named; turns_hold = d.turns_hold })

-- one shape, clock and list make one policy
same_policy : (p n n' : Meaning) → SameShape p n → SameShape p n' → n.clock ≡ n'.clock → n.waiting ≡ n'.waiting → n ≡ n'
same_policy p n n' s s' c w = is_reshaped p n s ∙ (λ i. reshaped p (c i) (w i)) ∙ sym (is_reshaped p n' s')

-- an entry joins with one deadline, at one place
joins_once : (o : Order) → o ≢ free → (p : Meaning) (c b : ℕ) (q : Request) (number : ℕ) (kind : Kind) (d d' : ℕ) (n n' : Meaning) → JoinsBy o p c b (entry_for p q number kind d) n → JoinsBy o p c b (entry_for p q number kind d') n' →
    (d ≡ d') × (n.waiting ≡ n'.waiting)
joins_once free u p c b q number kind d d' n n' j j' = absurd (u refl)
joins_once first_come u p c b q number kind d d' n n' j j' =
    let same : d ≡ d' = j.1 ∙ sym j'.1 in
    (same, j.0 ∙ ap (λ (t : ℕ). p.waiting ++ (entry_for p q number kind t ∷ [])) same ∙ sym j'.0)
joins_once turn_order u p c b q number kind d d' n n' j j' =
    let same : d ≡ d' = j.1 ∙ sym j'.1 in
    (same, j.0 ∙ ap (λ (t : ℕ). insert p.waiting (length (due_before t p.waiting)) (entry_for p q number kind t)) same ∙ sym j'.0)

-- a turn that gives nothing and one that gives an entry do not both stand
no_both : (o : Order) → o ≢ free → (p : Meaning) (c : ℕ) (e : Entry) (es : List Entry) → (o ≡ turn_order → p.holds ≡ true) → Timely p.span c p.waiting → IdleBy o p → p.waiting ≡ e ∷ es → (p.holds ≡ true → e.deadline + 1 ≡ c + p.span) → ⊥
no_both free u p c e es h t i w d = u refl
no_both first_come u p c e es h t i w d = cc (i, w)
no_both turn_order u p c e es h t i w d = omega (arith, d (h refl), (subst (λ (xs : List Entry). Timely p.span c xs) w t).0)

-- a turn gives one thing and leaves one policy
turns_once : (p : Meaning) (c : ℕ) (g g' : Option Entry) (n n' : Meaning) → Named p → Turned p c g n → Turned p c g' n' → (g ≡ g') × (n ≡ n')
turns_once p c None None n n' d t t' = (refl, same_policy p n n' t.0 t'.0 (t.1 ∙ sym t'.1) (t.2 ∙ sym t'.2))
turns_once p c None (Some e) n n' d t t' = absurd (no_both p.order d.named p c e n'.waiting d.turns_hold t.3 t.4 t'.2 t'.3)
turns_once p c (Some e) None n n' d t t' = absurd (no_both p.order d.named p c e n.waiting d.turns_hold t'.3 t'.4 t.2 t.3)
turns_once p c (Some e) (Some e') n n' d t t' =
    let same : ◌≡◌ {A = List Entry} (e ∷ n.waiting) (e' ∷ n'.waiting) = sym t.2 ∙ t'.2 in
    let head : e ≡ e' = cc in
    let rest : n.waiting ≡ n'.waiting = cc in
    (ap (λ (x : Entry). Some x) head, same_policy p n n' t.0 t'.0 (t.1 ∙ sym t'.1) rest)

-- one thing is in service in a cycle
serves_once : (m : Machine) (o now now' : Option Service) (after after' : Meaning) → Named m.policy → InService m o now after → InService m o now' after' → (now ≡ now') × (after ≡ after')
serves_once m (Some s) now now' after after' d i i' = (i.0 ∙ sym i'.0, i.1 ∙ sym i'.1)
serves_once m None now now' after after' d i i' =
    let t = turns_once m.policy m.clock i.0 i'.0 after after' d i.1 i'.1 in
    (i.2 ∙ ap (started m.clock) t.0 ∙ sym i'.2, t.1)

-- one thing goes out for it
goes_once : (m : Machine) (now : Option Service) (a a' : Option Command) (then then' : Option Service) → Goes m now a then → Goes m now a' then' → (a ≡ a') × (then ≡ then')
goes_once m None None None then then' g g' = (refl, g ∙ sym g')
goes_once m None (Some c) a' then then' g g' = absurd g
goes_once m None None (Some c) then then' g g' = absurd g'
goes_once m (Some s) None None then then' g g' = (refl, g.1 ∙ sym g'.1)
goes_once m (Some s) (Some c) None then then' g g' = absurd (g'.0 g.1)
goes_once m (Some s) None (Some c) then then' g g' = absurd (g.0 g'.1)
goes_once m (Some s) (Some c) (Some c') then then' g g' =
    let same : c ≡ c' = g.0 ∙ sym g'.0 in
    (ap (λ (x : Command). Some x) same, g.2 ∙ ap (λ (x : Command). stays_after x.kind s) same ∙ sym g'.2)

ticks_once : (m : Machine) (a a' : Option Command) (n n' : Machine) → Named m.policy → Ticked m a n → Ticked m a' n' → (a ≡ a') × (n ≡ n')
ticks_once m a a' n n' d t t' =
    let s = serves_once m m.service t.now_served t'.now_served n.policy n'.policy d t.in_service t'.in_service in
    let g = goes_once m t'.now_served a a' n.service n'.service (subst (λ (o : Option Service). Goes m o a n.service) s.0 t.goes) t'.goes in
    let rest = t.rest_same in
    let rest' = t'.rest_same in
    let clock : n.clock ≡ n'.clock = t.clock_rises ∙ sym t'.clock_rises in
    let trace : n.trace ≡ n'.trace = t.trace_grows ∙ ap (extended m.trace) g.0 ∙ sym t'.trace_grows in
    (g.0, λ i. record { sheet = (rest.0 ∙ sym rest'.0) i; chip = (rest.1 ∙ sym rest'.1) i; last = (rest.2 ∙ sym rest'.2) i; policy = s.1 i; clock = clock i; service = g.1 i; accepted = (rest.3 ∙ sym rest'.3) i; trace = trace i })

accepts_once : (m : Machine) (q : Request) (i i' d d' : ℕ) (n n' : Machine) → Named m.policy → Accepted m q i d n → Accepted m q i' d' n' → (i ≡ i') × (d ≡ d') × (n ≡ n')
accepts_once m q i i' d d' n n' f a a' =
    let number : i' ≡ i = a'.number_is ∙ sym a.number_is in
    let some : Some a'.kind ≡ Some a.kind = sym a'.kind_is ∙ a.kind_is in
    let kind : a'.kind ≡ a.kind = cc in
    let joins = subst (λ (k : Kind). JoinsBy m.policy.order m.policy m.clock (base m) (entry_for m.policy q i k d') n'.policy) kind
    (subst (λ (j : ℕ). JoinsBy m.policy.order m.policy m.clock (base m) (entry_for m.policy q j a'.kind d') n'.policy) number a'.taken.by_order) in
    let once = joins_once m.policy.order f.named m.policy m.clock (base m) q i a.kind d d' n.policy n'.policy a.taken.by_order joins in
    (sym number, once.0, is_joined m q i d n a ∙ ap (joined_to m q.requester) once.1 ∙ sym (is_joined m q i' d' n' a'))

-- a call has one answer and leaves one machine
steps_once : (m : Machine) (e : Event) (a a' : Answer) (n n' : Machine) → Named m.policy → Step m e a n → Step m e a' n' → (a ≡ a') × (n ≡ n')
steps_once m (offer q) (accepted i d) (accepted i' d') n n' f s s' = let o = accepts_once m q i i' d d' n n' f s s' in (λ j. accepted (o.0 j) (o.1 j), o.2)
steps_once m (offer q) (accepted i d) (refused why) n n' f s s' = cc (s.no_reason, s'.0)
steps_once m (offer q) (refused why) (accepted i d) n n' f s s' = cc (s'.no_reason, s.0)
steps_once m (offer q) (refused why) (refused why') n n' f s s' = let z : Some why ≡ Some why' = sym s.0 ∙ s'.0 in (cc, s.1 ∙ sym s'.1)
steps_once m (offer q) (ticked c) a' n n' f s s' = absurd s
steps_once m (offer q) (accepted i d) (ticked c) n n' f s s' = absurd s'
steps_once m (offer q) (refused why) (ticked c) n n' f s s' = absurd s'
steps_once m tick (ticked c) (ticked c') n n' f s s' = let o = ticks_once m c c' n n' f s s' in (ap ticked o.0, o.1)
steps_once m tick (ticked c) (refused why) n n' f s s' = absurd (omega (arith, s.running, s'.0))
steps_once m tick (refused why) (ticked c) n n' f s s' = absurd (omega (arith, s'.running, s.0))
steps_once m tick (refused why) (refused why') n n' f s s' = (ap refused (s.1 ∙ sym s'.1), s.2 ∙ sym s'.2)
steps_once m tick (accepted i d) a' n n' f s s' = absurd s
steps_once m tick (ticked c) (accepted i d) n n' f s s' = absurd s'
steps_once m tick (refused why) (accepted i d) n n' f s s' = absurd s'

-- no call changes the order
turned_named : (p : Meaning) (c : ℕ) (g : Option Entry) (n : Meaning) → Turned p c g n → Named p → Named n
turned_named p c None n t f = still_named p n t.0 f
turned_named p c (Some e) n t f = still_named p n t.0 f

served_named : (m : Machine) (o now : Option Service) (after : Meaning) → InService m o now after → Named m.policy → Named after
served_named m (Some s) now after i f = subst Named (sym i.1) f
served_named m None now after i f = turned_named m.policy m.clock i.0 after i.1 f

step_named : (m : Machine) (e : Event) (a : Answer) (n : Machine) → Step m e a n → Named m.policy → Named n.policy
step_named m (offer q) (accepted i d) n s f = still_named m.policy n.policy s.taken.shape f
step_named m (offer q) (refused why) n s f = subst (λ (k : Machine). Named k.policy) (sym s.1) f
step_named m (offer q) (ticked c) n s f = absurd s
step_named m tick (ticked c) n s f = served_named m m.service s.now_served n.policy s.in_service f
step_named m tick (refused why) n s f = subst (λ (k : Machine). Named k.policy) (sym s.2) f
step_named m tick (accepted i d) n s f = absurd s

chains_once : (m : Machine) (log log' : List Exchange) (n n' : Machine) → Named m.policy → Chain m log n → Chain m log' n' → events log ≡ events log' → (log ≡ log') × (n ≡ n')
chains_once m [] [] n n' f c c' e = (refl, sym c ∙ c')
chains_once m [] (x ∷ log') n n' f c c' e = cc
chains_once m (x ∷ log) [] n n' f c c' e = cc
chains_once m (x ∷ log) (x' ∷ log') n n' f c c' e =
    let called : x.event ≡ x'.event = cc in
    let rest : events log ≡ events log' = cc in
    let s = steps_once m x.event x.answer x'.answer c.0 c'.0 f c.1 (subst (λ (v : Event). Step m v x'.answer c'.0) (sym called) c'.1) in
    let more = chains_once c.0 log log' n n' (step_named m x.event x.answer c.0 c.1 f) c.2 (subst (λ (k : Machine). Chain k log' n') (sym s.1) c'.2) rest in
    (λ i. record { event = called i; answer = s.0 i } ∷ more.0 i, more.1)

pub answers_determined : WheneverOpened AnswersDetermined
answers_determined s k last p f named log log' n n' c c' e = chains_once (opened s k last p) log log' n n' (record { named = named; turns_hold = f.shaped.turns_hold }) c c' e
