-- Orders over a room: their shape.
use Rattle.std.specs.Prelude.{◌≡◌, ℕ, ◌+◌, ◌*◌, ◌<◌, ◌≤◌, true, nat_lt, Bool}
use Rattle.std.proofs.Common.{arith, mul-le-mul_left}
use Rattle.std.proofs.lemmas.Bool.{lt-ltb, le-ltb, cond-true, cond-false}
use Rattle.policy.specs.Meaning.{places_of, Order, turn_order, WellShaped}
use Rattle.std.proofs.lemmas.Nat.{mul-le}
use Rattle.policy.specs.Making.{reach_of}
use Rattle.policy.specs.Orders.{room_meaning}
use Rattle.policy.specs.declared.room.Room.{Room}

-- a requester has its places
pub places_inside : (n q r : ℕ) → r < n → places_of n q r ≡ q
places_inside n q r h = cond-true (nat_lt r n) q 0 (lt-ltb r n h)

-- a stranger has none
pub places_outside : (n q r : ℕ) → n ≤ r → places_of n q r ≡ 0
places_outside n q r h = cond-false (nat_lt r n) q 0 (le-ltb r n h)

-- 16 times 8 places and one more are 129 spans at most
reach_bounded : (n q w : ℕ) → n ≤ 16 → q ≤ 8 → reach_of n q w ≤ 129 * w
reach_bounded n q w h l = omega (arith, mul-le n q 16 8 h l, mul-le-mul_left {m = n * q + 1} {n = 129} w (omega (arith, mul-le n q 16 8 h l)))

-- whatever the order, as long as turn order holds
pub room_shaped : (order : Order) (holds : Bool) (r : Room) → (order ≡ turn_order → holds ≡ true) → WellShaped (room_meaning order holds r)
room_shaped order holds r h =
    let n = r.numbers.requesters in
    let q = r.numbers.places in record {
      some_requester = r.numbers.requesters_in;
      few_places = λ s l. let e : places_of n q s ≡ q = places_inside n q s l in (omega (arith, r.numbers.places_in), omega (arith, r.numbers.places_in));
      no_stranger = λ s l. places_outside n q s l;
      span_bound = r.numbers.span_in;
      bank_bound = r.numbers.banks_in;
      reach_bound = reach_bounded n q r.numbers.span (omega (arith, r.numbers.requesters_in)) (omega (arith, r.numbers.places_in));
      name_inside = λ b s l. l;
      name_apart = λ b d s l k e. e;
      turns_hold = h;
    }
