-- The number of each refusal of a session, and which answers are refusals.
use Rattle.std.specs.Prelude.{ℕ}
use Rattle.controller.specs.declared.refusals.OpeningRefusal.{OpeningRefusal}
use Rattle.controller.specs.declared.refusals.OpeningRefusal.TheVariants.{Shape, Used, LastCycle}
use Rattle.controller.specs.declared.refusals.OfferRefusal.{OfferRefusal}
use Rattle.controller.specs.declared.refusals.OfferRefusal.TheVariants.{Requester, Request, Late, Full}
use Rattle.controller.specs.declared.refusals.TickRefusal.{TickRefusal}
use Rattle.controller.specs.declared.refusals.TickRefusal.TheVariants.{Over}

-- The number of a refusal to open.
abbrev pub opening_number : OpeningRefusal → ℕ
opening_number Shape = 7
opening_number Used = 8
opening_number LastCycle = 9

-- The number of a refusal of an offer.
abbrev pub offer_number : OfferRefusal → ℕ
offer_number Requester = 10
offer_number Request = 11
offer_number Late = 12
offer_number Full = 13

-- The number of a refusal of a tick.
abbrev pub tick_number : TickRefusal → ℕ
tick_number Over = 14
