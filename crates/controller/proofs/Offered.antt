-- An offer to a session is a step of its machine.
use Rattle.std.proofs.Common.{◌≡◌, ℕ, ◌+◌, ◌-◌, ◌<◌, ◌≤◌, Bool, true, false, cond, eqb, ltb, leb, List, [], length, get_or, set, Some, None, Ok, Err, Option, Result, sym, refl, ap, ◌∙◌, subst, inl, inr, arith}
use native.Mathlib.Bridge.{le_prop}
use Rattle.std.proofs.lemmas.List.{get_or-set_same, get_or-set_other}
use Rattle.std.proofs.lemmas.Bool.{le-leb, lt-leb, lt-ltb, eq-eqb, ne_eqb, cases_eq, cond-true, cond-false}
use Rattle.rulebook.specs.declared.command.Kind.{Kind}
use Rattle.policy.specs.declared.entry.Request.{Request}
use Rattle.policy.specs.Meaning.{Meaning, WellShaped, own, HasPlace, Full}
use Rattle.machine.specs.Machine.{Machine, base_at, asked_kind, improper, offer, offer_refusal, Accepted, Step, accepted, refused}
use Rattle.machine.proofs.Offers.{acceptable}
use Rattle.controller.specs.declared.counts.Counts.{Counts}
use Rattle.controller.specs.declared.receipt.Receipt.{Receipt}
use Rattle.controller.specs.declared.refusals.OfferRefusal.{OfferRefusal}
use Rattle.controller.specs.declared.refusals.OfferRefusal.TheVariants.{Requester}
use Rattle.controller.specs.declared.session.Session.{Session}
use Rattle.controller.specs.Counts.{count_of, one_more, counted}
use Rattle.controller.specs.Offering.{in_time, wanted, TakesIn}
use Rattle.controller.specs.Refusals.{offer_number}
use Rattle.controller.specs.Session.{service_of, machine, Sound, offer_refused, offer_answer, UnlessRefused, Carries}
use Rattle.controller.proofs.Chained.{reached_more, count_small}

-- the session that an offer leaves: with another policy and other counts
abbrev pub offered_to : {P : Type 0} (s : Session P) → P → Counts → (1 ≤ s.last) × (s.last ≤ 4000000000) → (1 ≤ s.clock) × (s.clock ≤ s.last + 1) → Session P
offered_to s p n a b = record { board = s.board; policy = p; last = s.last; clock = s.clock; engine = s.engine; counts = n; last_in = a; clock_in = b }

-- where the request asks for something and is early enough, only the places stand against it
passed_on : (stranger bad late : Bool) (asked : Option Kind) (rest : Option ℕ) (kind : Kind) → cond stranger (Err Requester) (in_time (cond bad None asked) late) ≡ Ok kind →
    (cond stranger (Some 10) (cond bad (Some 11) (cond late (Some 12) rest)) ≡ rest) × (asked ≡ Some kind)
passed_on true bad late asked rest kind e = cc
passed_on false true late asked rest kind e = cc
passed_on false false late None rest kind e = cc
passed_on false false true (Some d) rest kind e = cc
passed_on false false false (Some d) rest kind e = (refl, cc)

-- the last reason of an offer
abbrev full : Machine → Request → Bool
full m q = leb (m.policy.places q.requester) (length (own q.requester m.policy.waiting))

only_places : (m : Machine) (q : Request) (kind : Kind) → wanted m q ≡ Ok kind → (offer_refusal m q ≡ cond (full m q) (Some 13) None) × (asked_kind q.kind ≡ Some kind)
only_places m q kind e = passed_on (leb m.policy.requesters q.requester) (improper m.chip q) (ltb m.last ((m.clock - 1) + m.policy.reach)) (asked_kind q.kind) (cond (full m q) (Some 13) None) kind e

no_reason : (m : Machine) (q : Request) (kind : Kind) → wanted m q ≡ Ok kind → HasPlace m.policy q.requester → offer_refusal m q ≡ None
no_reason m q kind e room = (only_places m q kind e).0 ∙ cond-false (full m q) (Some 13) None (lt-leb (m.policy.places q.requester) (length (own q.requester m.policy.waiting)) room)

no_room : (m : Machine) (q : Request) (kind : Kind) → wanted m q ≡ Ok kind → Full m.policy q.requester → offer_refusal m q ≡ Some 13
no_room m q kind e over = (only_places m q kind e).0 ∙ cond-true (full m q) (Some 13) None (le-leb (m.policy.places q.requester) (length (own q.requester m.policy.waiting)) over)

-- the count of the requester rises by one, and no other
counts_rise : (each : List ℕ) (r : ℕ) → length each ≡ 16 → r < 16 → count_of each r < 4294967295 → (q : ℕ) → count_of (counted each r) q ≡ cond (eqb q r) (count_of each q + 1) (count_of each q)
counts_rise each r sixteen inside small q =
    let here : ltb r 16 ≡ true = lt-ltb r 16 inside in
    let now : counted each r ≡ set each r (one_more (get_or each r 0)) = cond-true (ltb r 16) (set each r (one_more (get_or each r 0))) each here in
    let its : count_of each r ≡ get_or each r 0 = cond-true (ltb r 16) (get_or each r 0) 0 here in
    let less : get_or each r 0 < 4294967295 = omega arith in
    let up : one_more (get_or each r 0) ≡ get_or each r 0 + 1 = cond-true (ltb (get_or each r 0) 4294967295) (get_or each r 0 + 1) (get_or each r 0) (lt-ltb (get_or each r 0) 4294967295 less) in
    elim (cases_eq q r) [
      | inl e ↦
          subst (λ (x : ℕ). count_of (counted each r) x ≡ cond (eqb x r) (count_of each x + 1) (count_of each x)) (sym e)
          (ap (λ (xs : List ℕ). count_of xs r) now
          ∙ cond-true (ltb r 16) (get_or (set each r (one_more (get_or each r 0))) r 0) 0 here
          ∙ get_or-set_same each r (one_more (get_or each r 0)) 0 (omega arith)
          ∙ up
          ∙ ap (λ (x : ℕ). x + 1) (sym its)
          ∙ sym (cond-true (eqb r r) (count_of each r + 1) (count_of each r) (eq-eqb r r refl)))
      | inr u ↦
          ap (λ (xs : List ℕ). count_of xs q) now
          ∙ ap (λ (x : ℕ). cond (ltb q 16) x 0) (get_or-set_other each r q (one_more (get_or each r 0)) 0 u)
          ∙ sym (cond-false (eqb q r) (count_of each q + 1) (count_of each q) (ne_eqb q r u))
    ]

-- what is answered is refused exactly where the machine refuses it
pub told : {P : Type 0} (meaning : P → Meaning) (sound : P → ℕ → ℕ → Type 0) (s : Session P) (q : Request) (kind : Kind) (r : Result Receipt OfferRefusal) (p : P) (n : Counts) →
    wanted (machine meaning s []) q ≡ Ok kind → TakesIn meaning sound s.clock (service_of s.engine.stage) q kind s.policy s.counts r p n → offer_refused r ≡ offer_refusal (machine meaning s []) q
told meaning sound s q kind (Ok a) p n e t = sym (no_reason (machine meaning s []) q kind e t.1)
told meaning sound s q kind (Err w) p n e t = ap (λ (x : OfferRefusal). Some (offer_number x)) t.0 ∙ sym (no_room (machine meaning s []) q kind e t.1)

-- a refusal leaves the session as it was
pub kept : {P : Type 0} (meaning : P → Meaning) (sound : P → ℕ → ℕ → Type 0) (s : Session P) (q : Request) (kind : Kind) (r : Result Receipt OfferRefusal) (p : P) (n : Counts)
    (a : (1 ≤ s.last) × (s.last ≤ 4000000000)) (b : (1 ≤ s.clock) × (s.clock ≤ s.last + 1)) →
    TakesIn meaning sound s.clock (service_of s.engine.stage) q kind s.policy s.counts r p n → UnlessRefused r s (offered_to s p n a b)
kept meaning sound s q kind (Ok w) p n a b t = tt
kept meaning sound s q kind (Err w) p n a b t = λ i. record { board = s.board; policy = t.2 i; last = s.last; clock = s.clock; engine = s.engine; counts = t.3 i; last_in = (le_prop a.0 s.last_in.0 i, le_prop a.1 s.last_in.1 i); clock_in = (le_prop b.0 s.clock_in.0 i, le_prop b.1 s.clock_in.1 i) }

-- a sound session takes a step of the machine and is sound again
pub steps : {P : Type 0} (meaning : P → Meaning) (sound : P → ℕ → ℕ → Type 0) → ((p : P) → WellShaped (meaning p)) → (s : Session P) (q : Request) (kind : Kind) (r : Result Receipt OfferRefusal) (p : P) (n : Counts)
    (a : (1 ≤ s.last) × (s.last ≤ 4000000000)) (b : (1 ≤ s.clock) × (s.clock ≤ s.last + 1)) →
    wanted (machine meaning s []) q ≡ Ok kind → TakesIn meaning sound s.clock (service_of s.engine.stage) q kind s.policy s.counts r p n → Carries meaning sound s (offer q) (offer_answer r) (offered_to s p n a b) (λ h. h)
steps {P} meaning sound shaped s q kind (Ok w) p n a b e t h z =
    let m : Machine = machine meaning s h in
    let taken = t.2 z.policy_sound in
    let free : offer_refusal m q ≡ None = no_reason m q kind e t.1 in
    let small : count_of s.counts.each q.requester < 4294967295 = count_small m z.reached (omega (arith, s.last_in, s.clock_in)) q.requester in
    let inside : q.requester < 16 = omega (arith, (acceptable m q free).known, (shaped s.policy).some_requester) in
    let rise = counts_rise s.counts.each q.requester s.counts.sixteen inside small in
    let step : Accepted m q w.number w.deadline (machine meaning (offered_to s p n a b) h) = record {
      no_reason = free;
      number_is = t.0;
      kind = kind;
      kind_is = (only_places m q kind e).1;
      taken = taken.0;
      counted = ap count_of t.3 ∙ (λ i r. rise r i);
      rest_same = (refl, refl, refl, refl, refl, refl);
    } in (
      step,
      record {
        summarised = z.summarised;
        policy_sound = subst (λ (x : ℕ). sound p s.clock (base_at s.clock x (service_of s.engine.stage))) (sym taken.0.shape.span_same) taken.1;
        reached = reached_more m z.reached (record { event = offer q; answer = accepted w.number w.deadline }) (machine meaning (offered_to s p n a b) h) step;
      },
    )
steps {P} meaning sound shaped s q kind (Err w) p n a b e t h z =
    let same : offered_to s p n a b ≡ s = kept meaning sound s q kind (Err w) p n a b t in
    let refuses : offer_refusal (machine meaning s h) q ≡ Some (offer_number w) = no_room (machine meaning s h) q kind e t.1 ∙ ap (λ (x : OfferRefusal). Some (offer_number x)) (sym t.0) in
    subst (λ (u : Session P). Step (machine meaning s h) (offer q) (refused (offer_number w)) (machine meaning u h) × Sound meaning sound u h) (sym same) ((refuses, refl), z)
