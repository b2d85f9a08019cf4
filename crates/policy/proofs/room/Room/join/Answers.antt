use Rattle.std.proofs.Common.{◌*◌, ◌<◌, length, arith}
use Rattle.std.proofs.lemmas.Nat.{mul-le}
use Rattle.std.proofs.lemmas.Bool.{ltb-true}
use Rattle.policy.specs.Moves.{waiting_in}
use Rattle.policy.specs.Rooms.{room_left, still_few}
use Rattle.policy.proofs.room.Room.join.Goals as goal

pub insert-requires : goal.insert-requires
insert-requires c =
    let self = c.args.self.now in
    let n = self.numbers.requesters in
    let q = self.numbers.places in
    let less : length (waiting_in self) < n * q = room_left n q c.args.entry (waiting_in self) self.few (ltb-true _ _ c.requires.0) in
    (omega arith, (c.requires.1, omega (arith, mul-le n q 16 8 (omega arith) (omega arith))))

pub invariant_of-self-clause-few : goal.invariant_of-self-clause-few
invariant_of-self-clause-few c =
    let self = c.args.self.now in
    still_few self.numbers.requesters self.numbers.places c.args.place (waiting_in self) _ c.args.entry self.few (ltb-true _ _ c.requires.0) c.insert.ensures.items
