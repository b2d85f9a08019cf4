-- A refusal of a sheet line carries a place below 13, and a line or count of a text is small.
use Rattle.std.proofs.Common.{◌≡◌, ℕ, zero, suc, ◌+◌, ◌^◌, ◌<◌, ◌≤◌, Bool, true, false, cond, ltb, List, [], ◌∷◌, length, drop, Some, None, Ok, Err, MatchBool, Option, Result, unwrap_or, sym, refl, ap, ◌∙◌, subst, arith, ltb-false}
use Rattle.std.specs.List.{position_from}
use Rattle.sheet.specs.First.{first_place}
use Rattle.sheet.specs.Given.{over_limit, value_outside}
use Rattle.sheet.specs.Making.{Refused, refused, unless_at, late, sheet_made, Sizes}
use Rattle.sheet.specs.Units.{within}
use Rattle.sheet.specs.declared.units.Cycles.{Cycles}
use Rattle.sheet.specs.declared.given.Timing.{Timing}
use Rattle.trace.specs.Board.{Told, both, board_told, board_of, board_made, board_place}
use Rattle.trace.specs.Fields.{and_then, field_in}
use Rattle.trace.specs.SheetLine.{timing_in, timings_in, sizes_in, sheet_line_in}
use Rattle.trace.specs.Text.{line_count}
use Rattle.sheet.specs.declared.board.Board.{Board as ReadBoard}
use Rattle.trace.specs.declared.board.BoardRefusal.{BoardRefusal}
use Rattle.trace.specs.declared.sheet_line.SheetLine.{SheetLine}
use Rattle.std.proofs.lemmas.Option.{same_Some}
use Rattle.checker.specs.Judging.{JudgedBy, JudgedText}
use Rattle.checker.specs.Packing.{low_part}
use Rattle.checker.specs.declared.refusals.TextRefusal.{TextRefusal}
use Rattle.checker.specs.declared.refusals.TextRefusal.TheVariants.{TooLong, Board, Malformed, Broken}

-- a place that a search finds lies inside the list
found_below : {X : Type 0} (such : X → Bool) (xs : List X) (k : ℕ) → unwrap_or (position_from such k xs) 0 < k + length xs + 1
found_below such [] k = omega arith
found_below such (x ∷ xs) k = by_test (such x) (found_below such xs (k + 1))
  where
    by_test : (b : Bool) → unwrap_or (position_from such (k + 1) xs) 0 < k + 1 + length xs + 1 → unwrap_or (cond b (Some k) (position_from such (k + 1) xs)) 0 < k + length (x ∷ xs) + 1
    by_test true h = omega arith
    by_test false h = omega arith

-- what was there before something followed of it
first_of : {X Y : Type 0} (o : Option Y) (f : Y → Option X) (x : X) → and_then o f ≡ Some x → (y : Y) × (o ≡ Some y) × (f y ≡ Some x)
first_of None f x h = cc
first_of (Some y) f x h = (y, refl, h)

timings_length : (n : ℕ) (bs : List ℕ) (ts : List Timing) → timings_in n bs ≡ Some ts → length ts ≡ n
unfolding timings_in
timings_length zero bs ts h = ap length (sym (same_Some [] ts h))
timings_length (suc n) bs ts h =
    let t = first_of (timing_in bs) (λ t. and_then (timings_in n (drop 8 bs)) (λ us. Some (t ∷ us))) ts h in
    let us = first_of (timings_in n (drop 8 bs)) (λ us. Some (t.0 ∷ us)) ts t.2 in
    ap length (sym (same_Some (t.0 ∷ us.0) ts us.2)) ∙ ap suc (timings_length n (drop 8 bs) us.0 us.1)

line_timings : (bs : List ℕ) (f : SheetLine) → sheet_line_in bs ≡ Some f → length f.timings ≡ 13
line_timings bs f h =
    let p = first_of (field_in 5 bs) _ f h in
    let ts = first_of (timings_in 13 (drop 5 bs)) _ f p.2 in
    let sizes = first_of (sizes_in (drop 104 (drop 5 bs))) _ f ts.2 in
    ap (λ (g : SheetLine). length g.timings) (sym (same_Some _ f sizes.2)) ∙ timings_length 13 (drop 5 bs) ts.0 ts.1

-- a refusal as it is told carries a place below n, if any
Placed : {X : Type 0} → ℕ → Result X Refused → Type 0
Placed n (Ok x) = Unit {0}
Placed n (Err why) = unwrap_or why.place 0 < n

sheet_placed : (n : ℕ) (b late : Bool) (limit value : Option ℕ) (vs : List Cycles) → 0 < n → unwrap_or limit 0 < n → unwrap_or value 0 < n →
    Placed n (cond b (unless_at 2 limit (unless_at 3 value (cond late (refused 4) (Ok vs)))) (refused 1))
unfolding Placed
sheet_placed n false late limit value vs some l v = some
sheet_placed n true late (Some p) value vs some l v = l
sheet_placed n true late None (Some p) vs some l v = v
sheet_placed n true true None None vs some l v = some
sheet_placed n true false None None vs some l v = tt

both_placed : (n : ℕ) (b : Bool) (values : Result (List Cycles) Refused) (sizes : Sizes) → 0 < n → Placed n values → Placed n (both values (cond b (Ok sizes) (refused 5)))
unfolding Placed
both_placed n b (Err why) sizes some h = h
both_placed n true (Ok vs) sizes some h = tt
both_placed n false (Ok vs) sizes some h = some

board_placed : (o : Option SheetLine) → ((f : SheetLine) → o ≡ Some f → length f.timings ≡ 13) → Placed 14 (board_of o)
unfolding Placed
board_placed None h = omega arith
board_placed (Some f) h =
    let thirteen : length f.timings ≡ 13 = h f refl in
    let period = f.period.0 in
    both_placed 14 _ (sheet_made period f.timings) _ (omega arith)
    (sheet_placed 14 (within 1 100000 period) _ (first_place over_limit f.timings) (first_place (value_outside period) f.timings) _ (omega arith)
    (omega (arith, found_below over_limit f.timings 0)) (omega (arith, found_below (value_outside period) f.timings 0)))

told_placed : (n : ℕ) (why : BoardRefusal) (made : Result Told Refused) → board_told (Err why) ≡ made → Placed n made → unwrap_or (board_place why) 0 < n
unfolding Placed
told_placed n why made e h = subst (λ (r : Result Told Refused). Placed n r) (sym e) h

lines_small : (n : ℕ) (text : List ℕ) → length text ≤ 1073741824 → n ≤ line_count text → n < 2 ^ 48
lines_small n text h l = omega arith

judged_small : (answer : Result ReadBoard BoardRefusal) (line text : List ℕ) (r : Result ℕ TextRefusal) → length text ≤ 1073741824 → board_told answer ≡ board_made line → JudgedBy answer text r → low_part r < 2 ^ 48
judged_small (Err why) line text r h e j =
    subst (λ (a : Result ℕ TextRefusal). low_part a < 2 ^ 48) (sym j)
    (omega (arith, told_placed 14 why (board_made line) e (board_placed (sheet_line_in line) (line_timings line))))
judged_small (Ok b) line text (Ok count) h e j = lines_small count text h (omega (arith, j.0))
judged_small (Ok b) line text (Err TooLong) h e j = absurd j
judged_small (Ok b) line text (Err (Board why)) h e j = absurd j
judged_small (Ok b) line text (Err (Malformed at)) h e j = lines_small at text h (omega (arith, j.1))
judged_small (Ok b) line text (Err (Broken at rule)) h e j = lines_small at text h (omega (arith, j.1))

small_by : (b : Bool) (line text : List ℕ) (r : Result ℕ TextRefusal) → ltb 1073741824 (length text) ≡ b →
    MatchBool b (r ≡ Err TooLong) ((answer : Result ReadBoard BoardRefusal) × (board_told answer ≡ board_made line) × JudgedBy answer text r) → low_part r < 2 ^ 48
small_by true line text r e j = subst (λ (a : Result ℕ TextRefusal). low_part a < 2 ^ 48) (sym j) (omega arith)
small_by false line text r e j = judged_small j.0 line text r (ltb-false 1073741824 (length text) e) j.1 j.2

-- what is answered fits 48 bits
pub small : (line text : List ℕ) (r : Result ℕ TextRefusal) → JudgedText line text r → low_part r < 2 ^ 48
small line text r j = small_by (ltb 1073741824 (length text)) line text r refl j
