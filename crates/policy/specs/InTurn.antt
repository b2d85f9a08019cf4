-- The laws of turn order, from the rooms before and after a call.
use Rattle.std.proofs.Common.{◌≡◌, ℕ, ◌+◌, ◌-◌, ◌*◌, ◌<◌, ◌≤◌, true, false, List, [], ◌∷◌, length, take, drop, Some, None, Option, sym, refl, ap, ◌∙◌, subst, arith}
use Rattle.std.specs.List.{insert, AllByRecursion, slice_get}
use Rattle.std.proofs.lemmas.List.{take-append-drop}
use Rattle.std.proofs.lemmas.Bool.{eqb-true, ltb-true, false≢true}
use Rattle.policy.specs.declared.entry.Entry.{Entry}
use Rattle.policy.specs.declared.numbers.Numbers.{Numbers}
use Rattle.policy.specs.declared.room.Room.{Room}
use Rattle.policy.specs.Meaning.{turn_order, Timely, Taken, Turned, base_after, own, due_before, places_of, own_slot, next_slot, slot_end}
use Rattle.policy.specs.Turns.{TurnSound, TurnSoundIn, starts_now, deadline_by_slot}
use Rattle.policy.specs.Orders.{room_meaning}
use Rattle.policy.specs.Moves.{waiting_in, place_left, Moved}
use Rattle.policy.specs.Rooms.{room_kept, all_inside, has_places}
use Rattle.policy.specs.Ordered.{places_inside}
use Rattle.policy.specs.Slots.{next_slot_is}
use Rattle.policy.specs.TurnLaws.{apart_timely}
use Rattle.policy.specs.Passing.{turn_given, turn_idle}
use Rattle.policy.specs.Joining.{turn_joined, slot_near}

-- soundness with the entries that a call leaves is soundness of the room that it leaves
sound_in : (r s : Room) (c d b : ℕ) (es : List Entry) → Moved r c es s → TurnSound r.numbers.span r.numbers.requesters d b es → TurnSoundIn s d b
sound_in r s c d b es moved sound =
    subst (λ (x : Numbers). TurnSound x.span x.requesters d b (waiting_in s)) (sym moved.same_numbers)
    (subst (λ t. TurnSound r.numbers.span r.numbers.requesters d b t) (sym moved.waits) sound)

-- an entry joins after those due before it, in the slot that follows its requester's others
pub turn_taken : (r s : Room) (c b : ℕ) (e : Entry) → place_left r e.requester ≡ true → e.deadline ≡ deadline_by_slot r c e.requester → Moved r c (insert (waiting_in r) (length (due_before e.deadline (waiting_in r))) e) s → TurnSoundIn r c b → Taken (room_meaning turn_order true r) c b e (room_meaning turn_order true s) × TurnSoundIn s c b
turn_taken r s c b e left named moved sound =
    let es = waiting_in r in
    let w = r.numbers.span in
    let n = r.numbers.requesters in
    let q = r.numbers.places in
    let k = sound.next in
    let place = length (due_before e.deadline es) in
    let place_is_left : length (own e.requester es) < places_of n q e.requester = ltb-true _ _ left in
    let inside : e.requester < n = has_places n q e.requester (omega arith) in
    let some : 1 ≤ w = omega (arith, r.numbers.span_in) in
    let next : next_slot w c ≡ k = next_slot_is w c k some sound.started sound.next_late sound.next_soon in
    let ends : e.deadline ≡ slot_end w (own_slot n e.requester k + length (own e.requester es) * n) = named ∙ ap (λ x. slot_end w (own_slot n e.requester x + length (own e.requester es) * n)) next in
    let joined : TurnSound w n c b (insert es place e) = turn_joined w n q c b e es some inside r.few sound ends in
    let few : length (own e.requester es) < q = omega (arith, places_inside n q e.requester inside) in (
      record {
        shape = room_kept turn_order true r s moved.same_numbers;
        room = place_is_left;
        joins = (take place es, drop place es, sym (take-append-drop place es), moved.waits);
        within_reach = omega (arith, slot_near w n q k c e.requester (length (own e.requester es)) inside few sound.next_soon);
        timely = subst (λ t. Timely w b t) (sym moved.waits) (apart_timely w b (joined.next * w) (insert es place e) joined.base_before joined.apart);
        clock_is = omega (arith, sound.started, moved.noted_clock);
        by_order = (moved.waits, named);
      },
      sound_in r s c c b (insert es place e) moved joined,
    )

-- the first entry is given at the start of its slot
first_at_start : (w n c : ℕ) (es : List Entry) → 1 ≤ w → AllByRecursion (λ e. e.requester < n) es → starts_now w c (slice_get es 0) ≡ true → TurnSound w n c (c - 1) es → (e : Entry) × (slice_get es 0 ≡ Some e) × (es ≡ e ∷ drop 1 es) × (e.deadline ≡ c + w - 1) × TurnSound w n (c + 1) ((c + w) - 1) (drop 1 es)
first_at_start w n c [] some inside now sound = absurd (false≢true now)
first_at_start w n c (e ∷ es) some inside now sound =
    let ends : e.deadline ≡ c + w - 1 = eqb-true e.deadline (c + w - 1) now in
    (e, refl, refl, ends, turn_given w n c e es some inside.0 ends sound)

-- a turn gives the first entry at the start of its slot
pub turn_gives : (r s : Room) (c : ℕ) → starts_now r.numbers.span c (slice_get (waiting_in r) 0) ≡ true → Moved r c (drop 1 (waiting_in r)) s → TurnSoundIn r c (c - 1) → Turned (room_meaning turn_order true r) c (slice_get (waiting_in r) 0) (room_meaning turn_order true s) × TurnSoundIn s (c + 1) (base_after r.numbers.span c (slice_get (waiting_in r) 0))
turn_gives r s c now moved sound =
    let es = waiting_in r in
    let w = r.numbers.span in
    let n = r.numbers.requesters in
    let some : 1 ≤ w = omega (arith, r.numbers.span_in) in
    let g = first_at_start w n c es some (all_inside n r.numbers.places es r.few) now sound in
    let e = g.0 in
    let whole : es ≡ e ∷ waiting_in s = g.2 ∙ ap (λ t. e ∷ t) (sym moved.waits) in
    let start : e.deadline + 1 ≡ c + w = omega (arith, g.3) in
    subst (λ (x : Option Entry). Turned (room_meaning turn_order true r) c x (room_meaning turn_order true s) × TurnSoundIn s (c + 1) (base_after w c x)) (sym g.1) (
      (room_kept turn_order true r s moved.same_numbers, omega (arith, sound.started, moved.noted_clock), whole, λ _. start),
      sound_in r s c (c + 1) ((c + w) - 1) (drop 1 es) moved g.4,
    )

-- a turn gives nothing at any other time
pub turn_passes : (r s : Room) (c : ℕ) → starts_now r.numbers.span c (slice_get (waiting_in r) 0) ≡ false → Moved r c (waiting_in r) s → TurnSoundIn r c (c - 1) → Turned (room_meaning turn_order true r) c None (room_meaning turn_order true s) × TurnSoundIn s (c + 1) c
turn_passes r s c now moved sound =
    let es = waiting_in r in
    let w = r.numbers.span in
    let n = r.numbers.requesters in
    let some : 1 ≤ w = omega (arith, r.numbers.span_in) in
    let after : TurnSound w n (c + 1) c es = turn_idle w n c es some (all_inside n r.numbers.places es r.few) now sound in (
      (room_kept turn_order true r s moved.same_numbers, omega (arith, sound.started, moved.noted_clock), moved.waits, apart_timely w c (after.next * w) es after.base_before after.apart, tt),
      sound_in r s c (c + 1) c es moved after,
    )
