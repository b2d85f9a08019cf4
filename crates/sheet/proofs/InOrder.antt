-- Thirteen timings by their places: their values, and that each lies in range where no place is found outside.
use Rattle.std.proofs.Common.{◌≡◌, ℕ, ◌<◌, ◌≤◌, false, not, ltb, List, map, length, get_or, None, sym, refl, ap, ◌∙◌, subst, arith}
use Rattle.std.specs.List.{range_with_len}
use Rattle.std.proofs.lemmas.List.FromFn.{fill_by_all}
use Rattle.std.proofs.lemmas.Bool.Decides.{nat_tests}
use Rattle.sheet.specs.Limits.{InRange}
use Rattle.sheet.specs.Units.{within}
use Rattle.sheet.specs.Given.{value_at, value_outside}
use Rattle.sheet.specs.First.{first_place}
use Rattle.sheet.specs.Making.{late}
use Rattle.sheet.specs.declared.units.Cycles.{Cycles}
use Rattle.sheet.specs.declared.given.Timing.{Timing}
use Rattle.sheet.proofs.First.{none_such}

-- a list of thirteen is its elements at the places 0 to 12
thirteen : {X : Type 0} (xs : List X) (d : X) → length xs ≡ 13 → xs ≡ map (λ k. get_or xs k d) (range_with_len 0 13)
thirteen xs d h = fill_by_all (λ k. get_or xs k d) xs 13 d h (λ k _. refl)

pub values_by_place : (period : ℕ) (timings : List Timing) (d : Timing) → length timings ≡ 13 →
    map (λ k. value_at period (get_or timings k d)) (range_with_len 0 13) ≡ map (value_at period) timings
values_by_place period timings d h = ap (map (value_at period)) (sym (thirteen timings d h))

not_over : (a b : ℕ) → a ≤ b → ltb b a ≡ false
not_over a b l = grind (arith, nat_tests)

pub in_time : (period : ℕ) (timings : List Timing) (d : Timing) (rl wl : Cycles) → length timings ≡ 13 →
    rl ≡ value_at period (get_or timings 10 d) → wl ≡ value_at period (get_or timings 11 d) → wl.0 ≤ rl.0 →
    late (map (value_at period) timings) ≡ false
in_time period timings d rl wl h r w l =
    ap late (sym (values_by_place period timings d h)) ∙ (λ i. ltb (sym r i).0 (sym w i).0) ∙ not_over wl.0 rl.0 l

inside : (n : ℕ) → not (within 1 255 n) ≡ false → InRange n
inside n e = grind (arith, nat_tests)

pub in_range_at : (period : ℕ) (timings : List Timing) (k : ℕ) (d : Timing) (v : Cycles) → length timings ≡ 13 →
    first_place (value_outside period) timings ≡ None → k < 13 → v ≡ value_at period (get_or timings k d) → InRange v.0
in_range_at period timings k d v h none few e =
    let P : Cycles → Type 0 = λ u. InRange u.0 in
    subst P (sym e) (inside (value_at period (get_or timings k d)).0 (none_such (value_outside period) timings 0 k d none (omega arith)))
