-- The reason that was found against opening, by its number.
use Rattle.std.specs.Prelude.{ℕ, Some, None, Ok, Err, Option, Result}
use Rattle.controller.specs.declared.refusals.OpeningRefusal.{OpeningRefusal}
use Rattle.controller.specs.Refusals.{opening_number}

-- The number of a reason, if there is one.
abbrev pub opening_refused : Result Unit OpeningRefusal → Option ℕ
opening_refused (Ok u) = None
opening_refused (Err why) = Some (opening_number why)
