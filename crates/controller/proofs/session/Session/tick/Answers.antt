use Rattle.controller.proofs.Passed.{steps}
use Rattle.controller.proofs.session.Session.tick.Goals as goal

pub returns-clause-steps : goal.returns-clause-steps
returns-clause-steps g c = steps g.P.Policy.meaning g.P.Policy.sound g.met.P.Policy.shaped g.met.P.Policy.shortened _ _ _ c.if-self.false c.pass.ensures
