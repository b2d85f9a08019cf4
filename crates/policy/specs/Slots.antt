-- Slots: which comes next, whose it is, and where it ends.
use Rattle.std.proofs.Common.{◌≡◌, ℕ, ◌+◌, ◌-◌, ◌*◌, ◌/◌, ◌%◌, ◌<◌, ◌≤◌, ◌⊎◌, ◌≢◌, sym, ap, ◌∙◌, inl, inr, arith, mod-lt, mod-eq_of_lt, mul-le-mul_right}
use Rattle.std.proofs.Math.Nat.{add-mod-mod, add-mod_right, add-mul-mod_self_left, div-add-mod}
use Rattle.std.proofs.lemmas.Nat.{div-mul-add}
use Rattle.std.proofs.lemmas.Bool.{cases_order, cases_lt}
use Rattle.policy.specs.Meaning.{next_slot, own_slot, slot_end}
use Rattle.policy.specs.Remainders.{same_remainder}

-- the slot that starts at c or later, by less than a span, is the next one
pub next_slot_is : (w c k : ℕ) → 1 ≤ w → 1 ≤ c → c ≤ k * w + 1 → k * w + 1 < c + w → next_slot w c ≡ k
next_slot_is w c k h o l u =
    let b : ℕ = ((c - 1) + (w - 1)) - k * w in
    ap (λ (x : ℕ). x / w) (omega arith) ∙ div-mul-add k w b (omega arith)

-- a requester's first slot from slot k on is slot k or a later one
pub own_slot_late : (n r k : ℕ) → k ≤ own_slot n r k
own_slot_late n r k = omega arith

-- and comes less than n slots later
pub own_slot_soon : (n r k : ℕ) → r < n → own_slot n r k < k + n
own_slot_soon n r k h = omega (arith, mod-lt (n + r - (k % n)) {m = n} (omega arith))

-- and is its own
pub own_slot_of : (n r k : ℕ) → r < n → own_slot n r k % n ≡ r
own_slot_of n r k h =
    add-mod-mod k (n + r - (k % n)) n
    ∙ ap (λ (x : ℕ). x % n) (omega (arith, div-add-mod k n, mod-lt k {m = n} (omega arith)))
    ∙ add-mul-mod_self_left r n (k / n + 1)
    ∙ mod-eq_of_lt h

-- of n slots in a row only one is a requester's
pub same_slot : (n k s t : ℕ) → k ≤ s → s < k + n → k ≤ t → t < k + n → s % n ≡ t % n → s ≡ t
same_slot n k s t h i j l e =
    let p : (s - k) + k ≡ s = omega arith in
    let q : (t - k) + k ≡ t = omega arith in
    let same : s - k ≡ t - k = same_remainder n (s - k) (t - k) k (omega arith) (omega arith) (ap (λ (x : ℕ). x % n) p ∙ e ∙ sym (ap (λ (x : ℕ). x % n) q)) in
    omega arith

-- a slot of another passes
pub own_slot_stays : (n r k : ℕ) → r < n → k < own_slot n r k → own_slot n r (k + 1) ≡ own_slot n r k
own_slot_stays n r k h l =
    same_slot n (k + 1) (own_slot n r (k + 1)) (own_slot n r k) (own_slot_late n r (k + 1)) (own_slot_soon n r (k + 1) h) (omega arith) (omega (arith, own_slot_soon n r k h))
    (own_slot_of n r (k + 1) h ∙ sym (own_slot_of n r k h))

-- an own slot passes
pub own_slot_moves : (n r k : ℕ) → r < n → own_slot n r k ≡ k → own_slot n r (k + 1) ≡ k + n
own_slot_moves n r k h e =
    same_slot n (k + 1) (own_slot n r (k + 1)) (k + n) (own_slot_late n r (k + 1)) (own_slot_soon n r (k + 1) h) (omega arith) (omega arith)
    (own_slot_of n r (k + 1) h ∙ sym (own_slot_of n r k h) ∙ ap (λ (x : ℕ). x % n) e ∙ sym (add-mod_right k n))

-- the slots after an own one, each n later, are own ones
pub own_later : (n f j : ℕ) → (f + j * n) % n ≡ f % n
own_later n f j = ap (λ (x : ℕ). x % n) (omega arith) ∙ add-mul-mod_self_left f n j

-- a later slot ends a span later
pub slot_end_apart : (w s t : ℕ) → s < t → slot_end w s + w ≤ slot_end w t
slot_end_apart w s t h = omega (arith, mul-le-mul_right {m = s + 2} {n = t + 1} w (omega arith))

-- a slot that is not later does not end later
pub slot_end_mono : (w s t : ℕ) → s ≤ t → slot_end w s ≤ slot_end w t
slot_end_mono w s t h = mul-le-mul_right {m = s + 1} {n = t + 1} w (omega arith)

-- a slot that ends later is a later slot
pub slot_later : (w s t : ℕ) → slot_end w s < slot_end w t → s < t
slot_later w s t h = elim (cases_lt s t) [ inl l ↦ l | inr l ↦ absurd (omega (arith, slot_end_mono w t s l)) ]

-- slots that end together are one
pub slot_end_same : (w s t : ℕ) → 1 ≤ w → slot_end w s ≡ slot_end w t → s ≡ t
slot_end_same w s t h e = elim (cases_order s t) [
  | inl i ↦ i
  | inr o ↦ elim o [
    | inl l ↦ absurd (omega (arith, slot_end_apart w s t l))
    | inr l ↦ absurd (omega (arith, slot_end_apart w t s l))
  ]
]

-- two slots end together, or a span apart
pub slots_apart : (w s t : ℕ) → (s ≢ t) → (slot_end w s + w ≤ slot_end w t) ⊎ (slot_end w t + w ≤ slot_end w s)
slots_apart w s t d = elim (cases_order s t) [
  | inl i ↦ absurd (d i)
  | inr o ↦ elim o [ inl l ↦ inl (slot_end_apart w s t l) | inr l ↦ inr (slot_end_apart w t s l) ]
]
