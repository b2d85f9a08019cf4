use Rattle.std.proofs.Common.{sym, refl}
use Rattle.controller.proofs.Opened.{opens}
use Rattle.controller.proofs.session.Session.open.Goals as goal

pub returns : goal.returns
returns g c = opens g.P.Policy.meaning g.P.Policy.sound g.met.P.Policy.shaped g.met.P.Policy.fresh _ refl c.new.ensures.stage c.new.ensures.summary c.new-2.ensures (sym c.in_default.ensures.number)
