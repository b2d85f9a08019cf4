-- An entry joins the turn order: its slot is free, its place follows from its deadline, and each requester's entries stay in its own slots.
use Rattle.std.proofs.Common.{◌≡◌, ℕ, suc, ◌+◌, ◌*◌, ◌%◌, ◌<◌, ◌≤◌, true, false, cond, eqb, ◌⊎◌, List, [], ◌∷◌, ◌++◌, length, take, drop, sym, refl, ap, ◌∙◌, subst, inl, inr, mul-le-mul_right, arith}
use Rattle.std.specs.List.{insert, AllByRecursion}
use Rattle.std.proofs.lemmas.List.Elements.{filter-append}
use Rattle.std.proofs.ByRecursion.{All-weaker}
use Rattle.std.proofs.lemmas.List.{nil_from_length, take-append-drop}
use Rattle.std.proofs.lemmas.Bool.{cases_eq, cases_lt, lt-ltb, le-ltb}
use Rattle.policy.specs.declared.entry.Entry.{Entry}
use Rattle.policy.specs.Meaning.{own, due_before, own_slot, slot_end, places_of}
use Rattle.policy.specs.Making.{reach_of}
use Rattle.policy.specs.Turns.{Apart, Consecutive, TurnSound}
use Rattle.policy.specs.Rooms.{own_first, own_other, own_each}
use Rattle.policy.specs.Ordered.{places_outside}
use Rattle.policy.specs.Slots.{own_slot_late, own_slot_soon, own_slot_of, own_later, slot_end_apart, slots_apart}
use Rattle.policy.specs.Passing.{apart_late}

-- an entry is due a span before d, or a span after it and then it is not requester r's
abbrev pub Clear : ℕ → ℕ → ℕ → Entry → Type 0
Clear w r d e = (e.deadline + w ≤ d) ⊎ ((d + w ≤ e.deadline) × (e.requester ≡ r → ⊥))

-- entries in consecutive slots, each with its place among them
consecutive_each : (w n f : ℕ) (es : List Entry) → Consecutive w n f es → AllByRecursion (λ e. (j : ℕ) × (j < length es) × (e.deadline ≡ slot_end w (f + j * n))) es
consecutive_each w n f [] s = tt
consecutive_each w n f (e ∷ es) s = (
  (0, omega arith, s.0 ∙ ap (λ x. slot_end w x) (omega arith)),
  All-weaker (λ (x : Entry). (j : ℕ) × (j < length es) × (x.deadline ≡ slot_end w (f + n + j * n))) (λ (x : Entry). (j : ℕ) × (j < suc (length es)) × (x.deadline ≡ slot_end w (f + j * n)))
      (λ x p. let i = p.0 in let l = p.1 in (i + 1, omega arith, p.2 ∙ ap (λ y. slot_end w y) (omega arith))) es (consecutive_each w n (f + n) es s.1),
)

-- one entry of requester s in its slots, beside the slot that follows the q slots of requester r
beside : (w n k r q s j : ℕ) (e : Entry) → r < n → s < n → (s ≡ r → j < q) → e.deadline ≡ slot_end w (own_slot n s k + j * n) → (e.deadline + w ≤ slot_end w (own_slot n r k + q * n)) ⊎ ((slot_end w (own_slot n r k + q * n) + w ≤ e.deadline) × (s ≡ r → ⊥))
beside w n k r q s j e h l few d = elim (cases_eq s r) [
  | inl i ↦
      let same : own_slot n s k ≡ own_slot n r k = ap (λ x. own_slot n x k) i in
      let before : own_slot n s k + j * n < own_slot n r k + q * n = omega (arith, mul-le-mul_right {m = j + 1} {n = q} n (omega (arith, few i))) in
      inl (omega (arith, slot_end_apart w (own_slot n s k + j * n) (own_slot n r k + q * n) before))
  | inr u ↦
      let differ : own_slot n s k + j * n ≡ own_slot n r k + q * n → ⊥ = λ x. u (sym (own_slot_of n s k l) ∙ sym (own_later n (own_slot n s k) j) ∙ ap (λ (y : ℕ). y % n) x ∙ own_later n (own_slot n r k) q ∙ own_slot_of n r k h) in
      elim (slots_apart w (own_slot n s k + j * n) (own_slot n r k + q * n) differ) [
        | inl a ↦ inl (omega arith)
        | inr a ↦ inr (omega arith, u)
      ]
]

-- the slot that a requester gets next is clear of all others
pub slot_clear : (w n k r q : ℕ) (es : List Entry) → r < n → ((s : ℕ) → length (own s es) ≤ places_of n q s) → ((s : ℕ) → s < n → Consecutive w n (own_slot n s k) (own s es)) → AllByRecursion (Clear w r (slot_end w (own_slot n r k + length (own r es) * n))) es
slot_clear w n k r q es h few owned =
    let d = slot_end w (own_slot n r k + length (own r es) * n) in
    own_each (λ (s : ℕ) (e : Entry). (e.deadline + w ≤ d) ⊎ ((d + w ≤ e.deadline) × (s ≡ r → ⊥))) es (λ s. elim (cases_lt s n) [
      | inl l ↦ All-weaker (λ (e : Entry). (j : ℕ) × (j < length (own s es)) × (e.deadline ≡ slot_end w (own_slot n s k + j * n))) (λ (e : Entry). (e.deadline + w ≤ d) ⊎ ((d + w ≤ e.deadline) × (s ≡ r → ⊥)))
          (λ e p. beside w n k r (length (own r es)) s p.0 e h l (λ i. subst (λ x. p.0 < length (own x es)) i p.1) p.2) (own s es) (consecutive_each w n (own_slot n s k) (own s es) (owned s l))
      | inr l ↦ subst (λ t. AllByRecursion (λ (e : Entry). (e.deadline + w ≤ d) ⊎ ((d + w ≤ e.deadline) × (s ≡ r → ⊥))) t) (sym (nil_from_length (own s es) (omega (arith, few s, places_outside n q s l)))) tt
    ])

-- nothing is due before a cycle from which deadlines are apart
none_before : (w low d : ℕ) (es : List Entry) → d ≤ low → Apart w low es → length (due_before d es) ≡ 0
none_before w low d [] h a = refl
none_before w low d (e ∷ es) h a = ap (λ b. length (cond b (e ∷ due_before d es) (due_before d es))) (le-ltb e.deadline d (omega (arith, a.0))) ∙ none_before w e.deadline d es (omega (arith, a.0)) a.1

-- an entry that is due before is counted
counted : (d : ℕ) (x : Entry) (es : List Entry) → x.deadline < d → length (due_before d (x ∷ es)) ≡ suc (length (due_before d es))
counted d x es h = ap (λ b. length (cond b (x ∷ due_before d es) (due_before d es))) (lt-ltb x.deadline d h)

-- an entry that is due later ends the count
last_counted : (w d : ℕ) (x : Entry) (es : List Entry) → d ≤ x.deadline → Apart w x.deadline es → length (due_before d (x ∷ es)) ≡ 0
last_counted w d x es h a = ap (λ b. length (cond b (x ∷ due_before d es) (due_before d es))) (le-ltb x.deadline d h) ∙ none_before w x.deadline d es h a

-- deadlines stay a span apart where an entry joins after those due before it
pub joined_apart : (w low : ℕ) (e : Entry) (es : List Entry) → 1 ≤ w → low + w ≤ e.deadline → Apart w low es → AllByRecursion (Clear w e.requester e.deadline) es → Apart w low (insert es (length (due_before e.deadline es)) e)
joined_apart w low e [] o h a c = (h, tt)
joined_apart w low e (x ∷ es) o h a c = elim c.0 [
  | inl l ↦ subst (λ p. Apart w low (insert (x ∷ es) p e)) (sym (counted e.deadline x es (omega arith))) (a.0, joined_apart w x.deadline e es o l a.1 c.1)
  | inr m ↦ subst (λ p. Apart w low (insert (x ∷ es) p e)) (sym (last_counted w e.deadline x es (omega (arith, m.0)) a.1)) (h, (m.0, a.1))
]

-- a requester has none among entries that are clear of its slot and due after it
own_none : (w r d : ℕ) (es : List Entry) → 1 ≤ w → AllByRecursion (λ e. d ≤ e.deadline) es → AllByRecursion (Clear w r d) es → own r es ≡ []
own_none w r d [] o l c = refl
own_none w r d (e ∷ es) o l c = elim c.0 [
  | inl u ↦ absurd (omega (arith, l.0))
  | inr m ↦ own_other r e es m.1 ∙ own_none w r d es o l.1 c.1
]

-- the entry that joins is its requester's last
pub joined_own : (w low : ℕ) (e : Entry) (es : List Entry) → 1 ≤ w → Apart w low es → AllByRecursion (Clear w e.requester e.deadline) es → own e.requester (insert es (length (due_before e.deadline es)) e) ≡ own e.requester es ++ (e ∷ [])
joined_own w low e [] o a c = own_first e []
joined_own w low e (x ∷ es) o a c =
    let r = e.requester in
    elim c.0 [
      | inl l ↦
          let place = length (due_before e.deadline es) in
          ap (λ p. own r (insert (x ∷ es) p e)) (counted e.deadline x es (omega arith))
          ∙ elim (eqb x.requester r) as (λ b. cond b (x ∷ own r (insert es place e)) (own r (insert es place e)) ≡ cond b (x ∷ own r es) (own r es) ++ (e ∷ [])) [
            | true ↦ ap (λ t. x ∷ t) (joined_own w x.deadline e es o a.1 c.1)
            | false ↦ joined_own w x.deadline e es o a.1 c.1
          ]
      | inr m ↦
          let late : AllByRecursion (λ y. e.deadline ≤ y.deadline) (x ∷ es) = (omega (arith, m.0), All-weaker (λ (y : Entry). x.deadline + w ≤ y.deadline) (λ (y : Entry). e.deadline ≤ y.deadline) (λ y k. omega (arith, m.0)) es (apart_late w x.deadline es a.1)) in
          let none : own r (x ∷ es) ≡ [] = own_none w r e.deadline (x ∷ es) o late c in
          ap (λ p. own r (insert (x ∷ es) p e)) (last_counted w e.deadline x es (omega (arith, m.0)) a.1)
          ∙ own_first e (x ∷ es) ∙ ap (λ t. e ∷ t) none ∙ sym (ap (λ t. t ++ (e ∷ [])) none)
    ]

-- the entries of others are as they were
pub joined_others : (r place : ℕ) (e : Entry) (es : List Entry) → (e.requester ≡ r → ⊥) → own r (insert es place e) ≡ own r es
joined_others r place e es u =
    filter-append (λ (x : Entry). eqb x.requester r) (take place es) (e ∷ drop place es)
    ∙ ap (λ t. own r (take place es) ++ t) (own_other r e (drop place es) u)
    ∙ sym (filter-append (λ (x : Entry). eqb x.requester r) (take place es) (drop place es))
    ∙ ap (λ t. own r t) (take-append-drop place es)

-- one more entry in the slot that follows
consecutive_last : (w n f : ℕ) (es : List Entry) (e : Entry) → Consecutive w n f es → e.deadline ≡ slot_end w (f + length es * n) → Consecutive w n f (es ++ (e ∷ []))
consecutive_last w n f [] e s d = (d ∙ ap (λ x. slot_end w x) (omega arith), tt)
consecutive_last w n f (x ∷ es) e s d = (s.0, consecutive_last w n (f + n) es e s.1 (d ∙ ap (λ y. slot_end w y) (omega arith)))

-- a deadline in the slot that follows lies within the reach
pub slot_near : (w n q k c r j : ℕ) → r < n → j < q → k * w + 1 < c + w → slot_end w (own_slot n r k + j * n) + 1 ≤ c + reach_of n q w
slot_near w n q k c r j h l u =
    let rows : (j + 1) * n ≤ q * n = mul-le-mul_right {m = j + 1} {n = q} n (omega arith) in
    let slots : own_slot n r k + j * n + 1 ≤ k + q * n = omega (arith, own_slot_soon n r k h) in
    omega (arith, mul-le-mul_right {m = own_slot n r k + j * n + 1} {n = k + q * n} w slots)

-- turn order stays sound where an entry joins
pub turn_joined : (w n q c b : ℕ) (e : Entry) (es : List Entry) → 1 ≤ w → e.requester < n → ((s : ℕ) → length (own s es) ≤ places_of n q s) → (sound : TurnSound w n c b es) → e.deadline ≡ slot_end w (own_slot n e.requester sound.next + length (own e.requester es) * n) → TurnSound w n c b (insert es (length (due_before e.deadline es)) e)
turn_joined w n q c b e es o h few s d =
    let r = e.requester in
    let k = s.next in
    let place = length (due_before e.deadline es) in
    let clear : AllByRecursion (Clear w r e.deadline) es = subst (λ x. AllByRecursion (Clear w r x) es) (sym d) (slot_clear w n k r q es h few s.owned) in
    let low : k * w + w ≤ e.deadline = omega (arith, mul-le-mul_right {m = k + 1} {n = own_slot n r k + length (own r es) * n + 1} w (omega (arith, own_slot_late n r k))) in record {
      next = k;
      started = s.started;
      next_late = s.next_late;
      next_soon = s.next_soon;
      base_before = s.base_before;
      apart = joined_apart w (k * w) e es o low s.apart clear;
      owned = λ t l. elim (cases_eq r t) [
        | inl i ↦ subst (λ x. Consecutive w n (own_slot n x k) (own x (insert es place e))) i (subst (λ es'. Consecutive w n (own_slot n r k) es') (sym (joined_own w (k * w) e es o s.apart clear)) (consecutive_last w n (own_slot n r k) (own r es) e (s.owned r h) d))
        | inr u ↦ subst (λ es'. Consecutive w n (own_slot n t k) es') (sym (joined_others t place e es u)) (s.owned t l)
      ];
    }
