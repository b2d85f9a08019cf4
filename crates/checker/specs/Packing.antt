-- An answer as one number: refusal × 2^56 + rule × 2^48 + line, place or count; absent parts are 0.
use Rattle.std.specs.Prelude.{◌≡◌, ℕ, ◌+◌, ◌*◌, ◌/◌, ◌%◌, ◌^◌, Ok, Err, Result}
use Rattle.std.specs.Option.{unwrap_or}
use Rattle.checker.specs.Refusals.{text_number, text_place, text_rule}
use Rattle.checker.specs.declared.refusals.TextRefusal.{TextRefusal}

-- the refusal's number, 0 where the trace passes
abbrev pub refusal_part : Result ℕ TextRefusal → ℕ
refusal_part (Ok count) = 0
refusal_part (Err why) = text_number why

-- the rule's number, 0 where none is carried
abbrev pub rule_part : Result ℕ TextRefusal → ℕ
rule_part (Ok count) = 0
rule_part (Err why) = unwrap_or (text_rule why) 0

-- the count of lines, or the line or place that is carried, 0 where none is
abbrev pub low_part : Result ℕ TextRefusal → ℕ
low_part (Ok count) = count
low_part (Err why) = unwrap_or (text_place why) 0

-- the number, with 48 bits for the low part
abbrev pub packed : Result ℕ TextRefusal → ℕ
packed r = refusal_part r * 2 ^ 56 + rule_part r * 2 ^ 48 + low_part r % 2 ^ 48

-- the number gives back each part
pub record GivesBack (n : ℕ) (r : Result ℕ TextRefusal) : Type 0 where
  pub refusal : n / 2 ^ 56 ≡ refusal_part r
  pub rule : n / 2 ^ 48 % 256 ≡ rule_part r
  pub low : n % 2 ^ 48 ≡ low_part r
