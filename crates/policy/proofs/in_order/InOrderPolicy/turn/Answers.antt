use Rattle.std.proofs.Common.{sym, ◌∙◌}
use Rattle.policy.proofs.in_order.InOrderPolicy.turn.Goals as goal

pub returns-else-is_due : goal.returns-else-is_due
returns-else-is_due g c = g.met.O.ServiceOrder.passed c.args.self.now.room c.pass.new.self c.args.clock (sym c.is_due.ensures ∙ c.if-is_due.false) c.pass.ensures
