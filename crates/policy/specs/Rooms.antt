-- Counting the entries of a room: where one more has a place, fewer wait than there are places.
use Rattle.std.proofs.Common.{◌≡◌, ℕ, ◌+◌, ◌*◌, ◌≤◌, Bool, true, refl, ap, arith, zero, suc, ◌<◌, false, cond, not, List, [], ◌∷◌, ◌++◌, length, filter, ◌==◌, ◌≢◌, nat_eq, sym, subst, ◌∙◌, inl, inr, suc-mul}
use Rattle.policy.specs.Meaning.{Order, SameShape, places_of, own}
use Rattle.policy.specs.Making.{reach_of}
use Rattle.policy.specs.Orders.{room_meaning}
use Rattle.policy.specs.declared.room.Room.{Room}
use Rattle.policy.specs.declared.numbers.Numbers.{Numbers}
use Rattle.std.proofs.lemmas.List.Filters.{length-filter_both, sum_by-filter_both}
use Rattle.std.proofs.lemmas.List.Sums.{length-filter, sum_by-insert}
use Rattle.std.specs.List.{insert, AllByRecursion}
use Rattle.std.proofs.lemmas.List.{nil_from_length}
use Rattle.std.proofs.ByRecursion.{All-weaker, kept_by_passes}
use Rattle.std.proofs.lemmas.Bool.{eq-eqb, ne_eqb, cond-true, cond-false, cases_Bool, cases_eq, cases_lt, cases_order}
use Rattle.policy.specs.declared.entry.Entry.{Entry}
use Rattle.policy.specs.Ordered.{places_inside, places_outside}

-- rooms with the same numbers mean policies of one shape
pub room_kept : (order : Order) (holds : Bool) (r s : Room) → s.numbers ≡ r.numbers → SameShape (room_meaning order holds r) (room_meaning order holds s)
room_kept order holds r s e = record {
  requesters_same = ap (λ (x : Numbers). x.requesters) e;
  places_same = ap (λ (x : Numbers). places_of x.requesters x.places) e;
  span_same = ap (λ (x : Numbers). x.span) e;
  banks_same = ap (λ (x : Numbers). x.banks) e;
  reach_same = ap (λ (x : Numbers). reach_of x.requesters x.places x.span) e;
  holds_same = refl;
  names_same = refl;
  order_same = refl;
}

-- the entries of all others
abbrev others : ℕ → List Entry → List Entry
others r es = filter (λ e. not (e.requester == r)) es

-- a requester's own entries and those of all others are all entries
parted : (r : ℕ) (es : List Entry) → length es ≡ length (own r es) + length (others r es)
parted r es = sym (length-filter_both (λ (e : Entry). e.requester == r) (λ (e : Entry). not (e.requester == r)) (λ _. refl) es)

-- the others have no entry of the requester
none_among_others : (r : ℕ) (es : List Entry) → length (own r (others r es)) ≡ 0
none_among_others r [] = refl
none_among_others r (e ∷ es) = elim (cases_Bool (e.requester == r)) [
  | inl t ↦ rw t (none_among_others r es)
  | inr f ↦ rw f (rw f (none_among_others r es))
]

-- leaving entries out adds no entry of a requester
fewer_among_others : (s r : ℕ) (es : List Entry) → length (own s (others r es)) ≤ length (own s es)
fewer_among_others s r es =
    let own_of : Entry → Bool = λ e. e.requester == s in
    omega (arith, length-filter own_of (others r es), length-filter own_of es, sum_by-filter_both (λ (e : Entry). e.requester == r) (λ (e : Entry). not (e.requester == r)) (λ _. refl) (λ (e : Entry). cond (own_of e) 1 0) es)

-- only requesters have places
pub has_places : (n q r : ℕ) → 0 < places_of n q r → r < n
has_places n q r h = elim (cases_lt r n) [ inl l ↦ l | inr l ↦ absurd (omega (arith, places_outside n q r l)) ]

-- an entry is its requester's own
pub own_first : (e : Entry) (es : List Entry) → own e.requester (e ∷ es) ≡ e ∷ own e.requester es
own_first e es = cond-true (e.requester == e.requester) (e ∷ own e.requester es) (own e.requester es) (eq-eqb e.requester e.requester refl)

-- and no other's
pub own_other : (r : ℕ) (e : Entry) (es : List Entry) → (e.requester ≢ r) → own r (e ∷ es) ≡ own r es
own_other r e es h = cond-false (e.requester == r) (e ∷ own r es) (own r es) (ne_eqb e.requester r h)

-- without the last requester, those before it have no more entries than places
left_over : (n q : ℕ) (es : List Entry) → ((r : ℕ) → length (own r es) ≤ places_of (suc n) q r) → (r : ℕ) → length (own r (others n es)) ≤ places_of n q r
left_over n q es h r = elim (cases_order r n) [
  | inl i ↦ let z : length (own r (others n es)) ≡ 0 = subst (λ k. length (own k (others n es)) ≡ 0) (sym i) (none_among_others n es) in omega arith
  | inr o ↦ elim o [
    | inl l ↦ omega (arith, h r, fewer_among_others r n es, places_inside (suc n) q r (omega arith), places_inside n q r l)
    | inr l ↦ omega (arith, h r, fewer_among_others r n es, places_outside (suc n) q r (omega arith))
  ]
]

-- no more wait than there are places
pub few_wait : (n q : ℕ) (es : List Entry) → ((r : ℕ) → length (own r es) ≤ places_of n q r) → length es ≤ n * q
few_wait zero q [] h = omega arith
few_wait zero q (e ∷ es) h = absurd (omega (arith, h e.requester, ap length (own_first e es), places_outside 0 q e.requester (omega arith)))
few_wait (suc n) q es h =
    let less = few_wait n q (others n es) (left_over n q es h) in
    omega (arith, parted n es, h n, places_inside (suc n) q n (omega arith), suc-mul n q)

-- where an entry joins, its requester has one more and no other has
pub own_joined : (r : ℕ) (front : List Entry) (e : Entry) (back : List Entry) → length (own r (front ++ (e ∷ back))) ≡ length (own r (front ++ back)) + cond (e.requester == r) 1 0
own_joined r [] e back = elim (e.requester == r) as (λ b. length (cond b (e ∷ own r back) (own r back)) ≡ length (own r back) + cond b 1 0) [ true ↦ omega arith | false ↦ omega arith ]
own_joined r (x ∷ front) e back = let more = own_joined r front e back in
    elim (x.requester == r) as (λ b. length (cond b (x ∷ own r (front ++ (e ∷ back))) (own r (front ++ (e ∷ back)))) ≡ length (cond b (x ∷ own r (front ++ back)) (own r (front ++ back))) + cond (e.requester == r) 1 0) [ true ↦ omega arith | false ↦ omega arith ]

-- places still suffice where an entry joins whose requester had one left
pub still_few : (n q place : ℕ) (es fs : List Entry) (e : Entry) → ((r : ℕ) → length (own r es) ≤ places_of n q r) → length (own e.requester es) < places_of n q e.requester → fs ≡ insert es place e → (r : ℕ) → length (own r fs) ≤ places_of n q r
still_few n q place es fs e h l w r =
    let grown : length (own r fs) ≡ length (own r es) + cond (e.requester == r) 1 0 =
    ap (λ t. length (own r t)) w ∙ length-filter (λ (x : Entry). x.requester == r) (insert es place e)
    ∙ sum_by-insert (λ (x : Entry). cond (x.requester == r) 1 0) es place e
    ∙ ap (λ k. k + cond (e.requester == r) 1 0) (sym (length-filter (λ (x : Entry). x.requester == r) es)) in
    elim (cases_eq e.requester r) [
      | inl i ↦ let m : length (own r es) < places_of n q r = subst (λ k. length (own k es) < places_of n q k) i l in
          omega (arith, cond-true {A = ℕ} (e.requester == r) 1 0 (eq-eqb e.requester r i))
      | inr d ↦ omega (arith, h r, cond-false {A = ℕ} (e.requester == r) 1 0 (ne_eqb e.requester r d))
    ]

-- where one more has a place, fewer wait than there are places
pub room_left : (n q : ℕ) (e : Entry) (es : List Entry) → ((r : ℕ) → length (own r es) ≤ places_of n q r) → length (own e.requester es) < places_of n q e.requester → length es < n * q
room_left n q e es h l = few_wait n q (e ∷ es) (still_few n q 0 es (e ∷ es) e h l refl)

-- what each requester's own entries are, each entry is
pub own_each : (P : ℕ → Entry → Type 0) (es : List Entry) → ((r : ℕ) → AllByRecursion (P r) (own r es)) → AllByRecursion (λ e. P e.requester e) es
own_each P [] h = tt
own_each P (e ∷ es) h = (
  (subst (λ t. AllByRecursion (P e.requester) t) (own_first e es) (h e.requester)).0,
  own_each P es (λ r. elim (e.requester == r) as (λ b. AllByRecursion (P r) (cond b (e ∷ own r es) (own r es)) → AllByRecursion (P r) (own r es)) [ true ↦ λ a. a.1 | false ↦ λ a. a ] (h r)),
)

-- all entries are of requesters
pub all_inside : (n q : ℕ) (es : List Entry) → ((r : ℕ) → length (own r es) ≤ places_of n q r) → AllByRecursion (λ e. e.requester < n) es
all_inside n q es few = own_each (λ (r : ℕ) (e : Entry). r < n) es (λ r. elim (cases_lt r n) [
  | inl l ↦ All-weaker (λ (e : Entry). (e.requester == r) ≡ true) (λ (e : Entry). r < n) (λ e _. l) (own r es) (kept_by_passes (λ (e : Entry). nat_eq e.requester r) es)
  | inr l ↦ subst (λ t. AllByRecursion (λ (e : Entry). r < n) t) (sym (nil_from_length (own r es) (omega (arith, few r, places_outside n q r l)))) tt
])
