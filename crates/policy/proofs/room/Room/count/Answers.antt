use Rattle.std.proofs.Common.{◌≡◌, ◌∙◌, sym, rules, eqb, count_by}
use Rattle.std.proofs.lemmas.List.Sums.{length-filter}
use Rattle.policy.specs.declared.entry.Entry.{Entry}
use Rattle.policy.specs.Moves.{waiting_in}
use Rattle.policy.proofs.room.Room.count.Goals as goal

pub returns : goal.returns
returns c =
    let own_of = λ (e : Entry). eqb e.requester c.args.requester in
    let total : c.sum.result ≡ count_by own_of (waiting_in c.args.self.now) = search rules in
    total ∙ sym (length-filter own_of (waiting_in c.args.self.now))
