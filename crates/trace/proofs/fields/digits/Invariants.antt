use Rattle.std.proofs.Common.{◌≡◌, ◌-◌, ◌^◌, ◌<◌, drop}
use Rattle.trace.specs.Fields.{field_in}
use Rattle.trace.proofs.Values.{field_after}
use Rattle.trace.proofs.fields.digits.Given as goal

abbrev pub invariant-loop-place : goal.invariant-loop-place
invariant-loop-place g l =
    (field_after (g.row.WIDTH - l._place) l.number l.rest ≡ field_in g.row.WIDTH l.line)
    × (l.rest ≡ drop l._place l.line)
    × (l.number < 16 ^ l._place)
