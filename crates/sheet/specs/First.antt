-- The first place of an element that is such.
use Rattle.std.specs.Prelude.{ℕ, Bool, List, Option}
use Rattle.std.specs.List.{position_from}

-- counted from 0; none where no element is such
abbrev pub first_place : {X : Type 0} → (X → Bool) → List X → Option ℕ
first_place such xs = position_from such 0 xs
