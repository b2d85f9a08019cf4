use Rattle.std.proofs.Common.{◌≡◌, ◌∙◌, sym, rules, ltb, count_by, arith}
use Rattle.std.proofs.lemmas.List.Sums.{length-filter, count_by-le-length}
use Rattle.policy.specs.declared.entry.Entry.{Entry}
use Rattle.policy.specs.Moves.{waiting_in}
use Rattle.policy.proofs.room.Room.count_before.Goals as goal

pub returns : goal.returns
returns c =
    let is_before = λ (e : Entry). ltb e.deadline c.args.deadline in
    let total : c.sum.result ≡ count_by is_before (waiting_in c.args.self.now) = search rules in record {
      value = total ∙ sym (length-filter is_before (waiting_in c.args.self.now));
      within = omega (arith, total, count_by-le-length is_before (waiting_in c.args.self.now));
    }
