-- The laws of first come, from the rooms before and after a call.
use Rattle.std.proofs.Common.{◌≡◌, ℕ, ◌+◌, ◌-◌, ◌*◌, ◌^◌, ◌<◌, ◌≤◌, true, false, Option, List, [], ◌∷◌, ◌++◌, length, drop, not, ◌==◌, None, refl, ap, sym, subst, inl, inr, ◌∙◌, arith, mul-le-mul_left, mod-eq_of_lt, mul-suc}
use Rattle.std.proofs.lemmas.Nat.{mul-le}
use Rattle.std.specs.List.{insert, slice_get}
use Rattle.std.proofs.lemmas.List.Edits.{insert_end}
use Rattle.std.proofs.lemmas.List.{append-nil, nil_from_length}
use Rattle.std.proofs.lemmas.Bool.{ltb-true, eqb-true, cases_Bool, false≢true}
use Rattle.policy.specs.declared.entry.Entry.{Entry}
use Rattle.policy.specs.declared.numbers.Numbers.{Numbers}
use Rattle.policy.specs.declared.room.Room.{Room}
use Rattle.policy.specs.Meaning.{first_come, Timely, Taken, Turned, base_after, own, places_of}
use Rattle.policy.specs.Making.{reach_of}
use Rattle.policy.specs.FirstCome.{FirstSound, FirstSoundIn, deadline_at_end, some_wait}
use Rattle.policy.specs.FirstLaws.{timely_sooner}
use Rattle.policy.specs.Orders.{room_meaning}
use Rattle.policy.specs.Moves.{waiting_in, place_left, Moved}
use Rattle.policy.specs.Rooms.{room_kept, room_left}

-- one more at the end, with a span for each entry before it and one for itself
pub timely_last : (w b : ℕ) (es : List Entry) (e : Entry) → Timely w b es → b + w * (length es + 1) ≤ e.deadline → Timely w b (es ++ (e ∷ []))
timely_last w b [] e t h = (omega arith, tt)
timely_last w b (x ∷ es) e t h = (t.0, timely_last w (b + w) es e t.1 (omega (arith, mul-suc w (length es + 1))))

-- the last deadline lies within the reach, where one more has a place
near : (n q w c b k : ℕ) → b + 1 ≤ c + w → k < n * q → b + w * (k + 1) + 1 ≤ c + reach_of n q w
near n q w c b k h l = omega (arith, mul-le-mul_left {m = k + 1} {n = n * q} w (omega arith))

-- soundness with the entries that a call leaves is soundness of the room that it leaves
sound_in : (r s : Room) (c d b : ℕ) (es : List Entry) → Moved r c es s → FirstSound r.numbers.span d b es → FirstSoundIn s d b
sound_in r s c d b es moved sound =
    subst (λ (x : Numbers). FirstSound x.span d b (waiting_in s)) (sym moved.same_numbers)
    (subst (λ t. FirstSound r.numbers.span d b t) (sym moved.waits) sound)

-- an entry joins at the end, with its deadline counted from the base
pub first_taken : (r s : Room) (c b : ℕ) (e : Entry) → c < 2 ^ 32 → place_left r e.requester ≡ true → e.deadline ≡ deadline_at_end r b → Moved r c (insert (waiting_in r) (length (waiting_in r)) e) s → FirstSoundIn r c b → Taken (room_meaning first_come false r) c b e (room_meaning first_come false s) × FirstSoundIn s c b
first_taken r s c b e fits left named moved sound =
    let es = waiting_in r in
    let w = r.numbers.span in
    let n = r.numbers.requesters in
    let q = r.numbers.places in
    let place_is_left : length (own e.requester es) < places_of n q e.requester = ltb-true _ _ left in
    let less : length es < n * q = room_left n q e es r.few place_is_left in
    let most : n * q ≤ 16 * 8 = mul-le n q 16 8 (omega (arith, r.numbers.requesters_in)) (omega (arith, r.numbers.places_in)) in
    let few : w * (length es + 1) ≤ 1785 * 128 = mul-le w (length es + 1) 1785 128 (omega (arith, r.numbers.span_in)) (omega arith) in
    let at_end : waiting_in s ≡ es ++ (e ∷ []) = moved.waits ∙ insert_end es e in
    let deadline : e.deadline ≡ b + w * (length es + 1) = named ∙ mod-eq_of_lt (omega (arith, fits, sound.base_soon, few)) in
    let in_time : Timely w b (es ++ (e ∷ [])) = timely_last w b es e sound.in_time (omega arith) in (
      record {
        shape = room_kept first_come false r s moved.same_numbers;
        room = place_is_left;
        joins = (es, [], sym (append-nil es), at_end);
        within_reach = omega (arith, near n q w c b (length es) sound.base_soon less);
        timely = subst (λ t. Timely w b t) (sym at_end) in_time;
        clock_is = omega (arith, sound.started, moved.noted_clock);
        by_order = (at_end, deadline);
      },
      sound_in r s c c b (es ++ (e ∷ [])) (record { same_numbers = moved.same_numbers; noted_clock = moved.noted_clock; waits = at_end }) (record { started = sound.started; base_late = sound.base_late; base_soon = sound.base_soon; in_time = in_time }),
    )

-- what is left after the first entry leaves room from the end of its service on
sound_after : (w c : ℕ) (e : Entry) (es : List Entry) → 1 ≤ w → FirstSound w c (c - 1) (e ∷ es) → FirstSound w (c + 1) ((c + w) - 1) es
sound_after w c e es some sound = record {
  started = omega arith;
  base_late = omega arith;
  base_soon = omega arith;
  in_time = timely_sooner w ((c + w) - 1) ((c - 1) + w) es (omega (arith, sound.started)) sound.in_time.1;
}

-- where entries wait, one of them is the first
first_of : (es : List Entry) → not (length es == 0) ≡ true → (e : Entry) × (es ≡ e ∷ drop 1 es)
first_of [] h = absurd (false≢true h)
first_of (e ∷ es) h = (e, refl)

-- a turn gives the first entry where one waits
pub first_gives : (r s : Room) (c : ℕ) → some_wait r ≡ true → Moved r c (drop 1 (waiting_in r)) s → FirstSoundIn r c (c - 1) → Turned (room_meaning first_come false r) c (slice_get (waiting_in r) 0) (room_meaning first_come false s) × FirstSoundIn s (c + 1) (base_after r.numbers.span c (slice_get (waiting_in r) 0))
first_gives r s c now moved sound =
    let es = waiting_in r in
    let w = r.numbers.span in
    let g = first_of es now in
    let e = g.0 in
    let after : FirstSound w (c + 1) ((c + w) - 1) (drop 1 es) = sound_after w c e (drop 1 es) (omega (arith, r.numbers.span_in)) (subst (λ t. FirstSound w c (c - 1) t) g.1 sound) in
    subst (λ (x : Option Entry). Turned (room_meaning first_come false r) c x (room_meaning first_come false s) × FirstSoundIn s (c + 1) (base_after w c x)) (sym (ap (λ t. slice_get t 0) g.1)) (
      (room_kept first_come false r s moved.same_numbers, omega (arith, sound.started, moved.noted_clock), g.1 ∙ ap (λ t. e ∷ t) (sym moved.waits), λ h. absurd (false≢true h)),
      sound_in r s c (c + 1) ((c + w) - 1) (drop 1 es) moved after,
    )

-- nothing waits where the room is not one in which entries wait
none_of : (es : List Entry) → not (length es == 0) ≡ false → es ≡ []
none_of es h = elim (cases_Bool (length es == 0)) [
  | inl t ↦ nil_from_length es (eqb-true (length es) 0 t)
  | inr f ↦ absurd (false≢true (sym h ∙ ap not f))
]

-- a turn gives nothing where none waits
pub first_passes : (r s : Room) (c : ℕ) → some_wait r ≡ false → Moved r c (waiting_in r) s → FirstSoundIn r c (c - 1) → Turned (room_meaning first_come false r) c None (room_meaning first_come false s) × FirstSoundIn s (c + 1) c
first_passes r s c now moved sound =
    let es = waiting_in r in
    let w = r.numbers.span in
    let none : es ≡ [] = none_of es now in
    let in_time : Timely w c es = subst (λ t. Timely w c t) (sym none) tt in (
      (room_kept first_come false r s moved.same_numbers, omega (arith, sound.started, moved.noted_clock), moved.waits, in_time, none),
      sound_in r s c (c + 1) c es moved (record { started = omega arith; base_late = omega arith; base_soon = omega (arith, r.numbers.span_in); in_time = in_time }),
    )
