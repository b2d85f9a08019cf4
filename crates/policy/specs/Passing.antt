-- Turn order stays sound where a slot passes, with its entry or without one.
use Rattle.std.proofs.Common.{◌≡◌, ℕ, ◌+◌, ◌-◌, ◌*◌, ◌<◌, ◌≤◌, false, List, [], ◌∷◌, nat_eq, slice_get, sym, ap, subst, ◌∙◌, inl, inr, arith}
use Rattle.std.specs.List.{AllByRecursion}
use Rattle.std.proofs.ByRecursion.{All-weaker, all_kept_by}
use Rattle.std.proofs.lemmas.Bool.{cases_eq, cases_lt, eqb-false}
use Rattle.policy.specs.declared.entry.Entry.{Entry}
use Rattle.policy.specs.Meaning.{own, own_slot, slot_end}
use Rattle.policy.specs.Turns.{Apart, Consecutive, TurnSound, starts_now}
use Rattle.policy.specs.Rooms.{own_first, own_other}
use Rattle.policy.specs.Slots.{own_slot_late, own_slot_stays, own_slot_moves, slot_end_apart, slot_later, slot_end_same}

-- each deadline lies a span after the cycle from which they are apart
pub apart_late : (w low : ℕ) (es : List Entry) → Apart w low es → AllByRecursion (λ e. low + w ≤ e.deadline) es
apart_late w low [] a = tt
apart_late w low (e ∷ es) a = (a.0, All-weaker (λ (x : Entry). e.deadline + w ≤ x.deadline) (λ (x : Entry). low + w ≤ x.deadline) (λ x h. omega (arith, a.0)) es (apart_late w e.deadline es a.1))

-- where a requester's entries are due after slot k, its first slot from k on is its first from k + 1 on
later_slots : (w n r k : ℕ) (es : List Entry) → 1 ≤ w → r < n → AllByRecursion (λ e. (k + 1) * w + w ≤ e.deadline) es → Consecutive w n (own_slot n r k) es → Consecutive w n (own_slot n r (k + 1)) es
later_slots w n r k [] o h a s = tt
later_slots w n r k (e ∷ es) o h a s =
    let late : k < own_slot n r k = slot_later w k (own_slot n r k) (omega (arith, a.0, s.0)) in
    subst (λ f. Consecutive w n f (e ∷ es)) (sym (own_slot_stays n r k h late)) s

-- slot k passes, and nobody's entry had it
slot_passes : (w n r k : ℕ) (es : List Entry) → 1 ≤ w → r < n → Apart w ((k + 1) * w) es → Consecutive w n (own_slot n r k) (own r es) → Consecutive w n (own_slot n r (k + 1)) (own r es)
slot_passes w n r k es o h a s =
    later_slots w n r k (own r es) o h (all_kept_by (λ (e : Entry). nat_eq e.requester r) (λ (e : Entry). (k + 1) * w + w ≤ e.deadline) es (apart_late w ((k + 1) * w) es a)) s

-- the entry that is served first has its requester's first slot
first_slot : (w n k : ℕ) (e : Entry) (es : List Entry) → Consecutive w n (own_slot n e.requester k) (own e.requester (e ∷ es)) → (e.deadline ≡ slot_end w (own_slot n e.requester k)) × Consecutive w n (own_slot n e.requester k + n) (own e.requester es)
first_slot w n k e es s = subst (λ t. Consecutive w n (own_slot n e.requester k) t) (own_first e es) s

-- slot k passes with the entry that had it
slot_used : (w n k : ℕ) (e : Entry) (es : List Entry) → 1 ≤ w → e.requester < n → e.deadline ≡ slot_end w k → Apart w ((k + 1) * w) es → ((r : ℕ) → r < n → Consecutive w n (own_slot n r k) (own r (e ∷ es))) → (r : ℕ) → r < n → Consecutive w n (own_slot n r (k + 1)) (own r es)
slot_used w n k e es o inside d a owned r h = elim (cases_eq e.requester r) [
  | inl i ↦
      let s = first_slot w n k e es (owned e.requester inside) in
      let here : own_slot n e.requester k ≡ k = slot_end_same w (own_slot n e.requester k) k o (sym s.0 ∙ d) in
      let moved : own_slot n e.requester (k + 1) ≡ own_slot n e.requester k + n = omega (arith, own_slot_moves n e.requester k inside here) in
      subst (λ t. Consecutive w n (own_slot n t (k + 1)) (own t es)) i (subst (λ f. Consecutive w n f (own e.requester es)) (sym moved) s.1)
  | inr u ↦ slot_passes w n r k es o h a (subst (λ t. Consecutive w n (own_slot n r k) t) (own_other r e es u) (owned r h))
]

-- a turn that gives the first entry, at the start of its slot
pub turn_given : (w n c : ℕ) (e : Entry) (es : List Entry) → 1 ≤ w → e.requester < n → e.deadline ≡ c + w - 1 → TurnSound w n c (c - 1) (e ∷ es) → TurnSound w n (c + 1) ((c + w) - 1) es
turn_given w n c e es o inside d s =
    let k = s.next in
    let start : c ≡ k * w + 1 = omega (arith, s.apart.0, s.next_late, s.started) in
    let ends : e.deadline ≡ (k + 1) * w = omega (arith, s.apart.0) in
    let rest : Apart w ((k + 1) * w) es = subst (λ x. Apart w x es) ends s.apart.1 in record {
      next = k + 1;
      started = omega arith;
      next_late = omega arith;
      next_soon = omega arith;
      base_before = omega arith;
      apart = rest;
      owned = slot_used w n k e es o inside ends rest s.owned;
    }

-- a turn that gives nothing before the next slot starts
idle_before : (w n c : ℕ) (es : List Entry) → (s : TurnSound w n c (c - 1) es) → c < s.next * w + 1 → TurnSound w n (c + 1) c es
idle_before w n c es s l = record {
  next = s.next;
  started = omega arith;
  next_late = omega arith;
  next_soon = omega (arith, s.next_soon);
  base_before = omega arith;
  apart = s.apart;
  owned = s.owned;
}

-- a turn that gives nothing at the start of a slot that nobody's entry has
idle_at : (w n c : ℕ) (es : List Entry) → 1 ≤ w → (s : TurnSound w n c (c - 1) es) → c ≡ s.next * w + 1 → Apart w ((s.next + 1) * w) es → TurnSound w n (c + 1) c es
idle_at w n c es o s start a = record {
  next = s.next + 1;
  started = omega arith;
  next_late = omega arith;
  next_soon = omega arith;
  base_before = omega arith;
  apart = a;
  owned = λ r h. slot_passes w n r s.next es o h a (s.owned r h);
}

-- where the first entry's slot does not start now, all slots that entries have come later
none_now : (w n c : ℕ) (es : List Entry) → 1 ≤ w → AllByRecursion (λ e. e.requester < n) es → starts_now w c (slice_get es 0) ≡ false → (s : TurnSound w n c (c - 1) es) → c ≡ s.next * w + 1 → Apart w ((s.next + 1) * w) es
none_now w n c [] o inside f s start = tt
none_now w n c (e ∷ es) o inside f s start =
    let r = e.requester in
    let k = s.next in
    let slot = own_slot n r k in
    let ends : e.deadline ≡ slot_end w slot = (first_slot w n k e es (s.owned r inside.0)).0 in
    let other : e.deadline ≡ c + w - 1 → ⊥ = eqb-false e.deadline (c + w - 1) f in
    let late : k < slot = elim (cases_eq slot k) [
      | inl i ↦ absurd (other (omega (arith, ap (λ x. slot_end w x) i)))
      | inr d ↦ omega (arith, own_slot_late n r k)
    ] in
    (omega (arith, slot_end_apart w k slot late), s.apart.1)

-- a turn that gives nothing
pub turn_idle : (w n c : ℕ) (es : List Entry) → 1 ≤ w → AllByRecursion (λ e. e.requester < n) es → starts_now w c (slice_get es 0) ≡ false → TurnSound w n c (c - 1) es → TurnSound w n (c + 1) c es
turn_idle w n c es o inside f s = elim (cases_lt c (s.next * w + 1)) [
  | inl l ↦ idle_before w n c es s l
  | inr l ↦
      let start : c ≡ s.next * w + 1 = omega (arith, s.next_late) in
      idle_at w n c es o s start (none_now w n c es o inside f s start)
]
