use Rattle.std.proofs.Common.{sym, ap, ◌∙◌}
use Rattle.std.specs.Result.{result_from_control_flow}
use Rattle.controller.proofs.Offered.{told, kept, steps}
use Rattle.controller.proofs.session.Session.offer.Goals as goal

pub returns : goal.returns
returns g c =
    let meaning = g.P.Policy.meaning in
    let sound = g.P.Policy.sound in
    let wants = sym c.wanted.ensures ∙ c.branch-kind.ensures ∙ ap result_from_control_flow c.in_ok-kind.is in
    let takes = c.take_in.ensures in
    record {
      refusal = told meaning sound c.args.self.now c.args.request _ _ _ _ wants takes;
      kept = kept meaning sound c.args.self.now c.args.request _ _ _ _ _ _ takes;
      steps = steps meaning sound g.met.P.Policy.shaped c.args.self.now c.args.request _ _ _ _ _ _ wants takes;
    }
