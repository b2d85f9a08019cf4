use Rattle.std.proofs.Common.{◌≡◌, ℕ, sym, subst}
use Rattle.policy.specs.Meaning.{base_after}
use Rattle.policy_tests.proofs.Calls.{sound_after, shape_after}
use Rattle.policy_tests.proofs.caller.first_cycle.Goals as goal

pub returns : goal.returns
returns g c =
    let m = g.P.Policy in
    let before = c.args.policy.now in
    let between = c.offer.new.self in
    let after = c.turn.new.self in
    let given = c.turn.result in
    let ends : (m.meaning before).clock ≡ 0 → m.sound after 2 (base_after (m.meaning after).span 1 given) = λ new.
    let begun : m.sound before 1 0 = (g.met.P.Policy.fresh before new).1 in
    let offered : m.sound between 1 0 = sound_after (λ p. m.sound p 1 0) _ _ _ _ before between c.offer.result c.offer.ensures.refused c.offer.ensures.taken begun in
    let turned = c.turn.ensures offered in
    let same : (m.meaning after).span ≡ (m.meaning between).span = (shape_after (m.meaning between) 1 given (m.meaning after) turned.0).span_same in
    subst (λ (w : ℕ). m.sound after 2 (base_after w 1 given)) (sym same) turned.1 in record {
      sound = ends;
      timely = λ new. g.met.P.Policy.timely after 2 (base_after (m.meaning after).span 1 given) (ends new);
    }
