use Rattle.std.proofs.Common.{ap, arith}
use Rattle.sheet.specs.Units.{cycles}
use Rattle.sheet.proofs.Rounding.{lasts, least}
use Rattle.sheet.proofs.units.Picoseconds.in_cycles.Goals as goal

pub returns : goal.returns
returns c =
    let length = c.args.self.0 in
    let period = c.args.period.length.0 in
    record {
      value = ap cycles c.divided_up.ensures;
      lasts = lasts length period _ (omega arith) c.divided_up.ensures;
      least = λ n. least length period _ n (omega arith) c.divided_up.ensures;
    }
