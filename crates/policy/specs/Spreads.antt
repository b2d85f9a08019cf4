-- The shape of a policy under spreading: names are those below of banks turned round by the row.
use Rattle.std.specs.Prelude.{◌+◌}
use Rattle.std.proofs.Common.{arith, mod-lt}
use Rattle.policy.specs.Meaning.{Meaning, WellShaped}
use Rattle.policy.specs.Spreading.{spread_bank, spread}
use Rattle.policy.specs.Remainders.{same_remainder}

-- names stay below the bank count and apart, since the banks passed down do
pub spread_shaped : (m : Meaning) → WellShaped m → WellShaped (spread m)
spread_shaped m s = record {
  some_requester = s.some_requester;
  few_places = s.few_places;
  no_stranger = s.no_stranger;
  span_bound = s.span_bound;
  bank_bound = s.bank_bound;
  reach_bound = s.reach_bound;
  name_inside = λ b r l. s.name_inside (spread_bank m.banks b r) r (mod-lt (b + r) (omega arith));
  name_apart = λ b d r l k e. same_remainder m.banks b d r l k (s.name_apart (spread_bank m.banks b r) (spread_bank m.banks d r) r (mod-lt (b + r) (omega arith)) (mod-lt (d + r) (omega arith)) e);
  turns_hold = s.turns_hold;
}
