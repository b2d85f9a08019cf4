use Rattle.std.proofs.Common.{sym, subst, ◌∙◌, arith}
use Rattle.std.specs.List.{insert}
use Rattle.policy.specs.Due.{due_by}
use Rattle.policy.specs.Moves.{waiting_in, Moved}
use Rattle.policy.proofs.in_order.InOrderPolicy.offer.Goals as goal

pub returns-clause-taken : goal.returns-clause-taken
returns-clause-taken g c =
    let room = c.args.self.now.room in
    let after = c.join.new.self in
    let entry = due_by c.args.entry c.deadline-deadline.result in
    let moved = subst (λ i. Moved room c.args.clock (insert (waiting_in room) i entry) after) c.place-place.ensures.value
    (subst (λ e. Moved room c.args.clock (insert (waiting_in room) c.place-place.result e) after) c.due.ensures c.join.ensures) in
    g.met.O.ServiceOrder.joined room after c.args.clock c.args.base entry (omega arith) (sym c.has_place.ensures ∙ c.if-not-has_place.false) c.deadline-deadline.ensures moved
