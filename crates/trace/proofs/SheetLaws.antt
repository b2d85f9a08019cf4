-- A sheet line is the text of its fields, and only so.
use Rattle.std.proofs.Common.{◌≡◌, ℕ, zero, suc, ◌+◌, ◌*◌, ◌^◌, ◌<◌, cond, List, [], ◌∷◌, ◌++◌, length, drop, Some, None, Option, sym, refl, ap, ◌∙◌, subst, append_assoc, arith}
use Rattle.std.proofs.lemmas.List.{drop-drop, drop_at, length-append}
use Rattle.sheet.specs.Units.{picoseconds, cycles}
use Rattle.sheet.specs.declared.given.Timing.{Timing}
use Rattle.trace.specs.Digits.{digits}
use Rattle.trace.specs.Fields.{and_then, with_field, is_feed}
use Rattle.trace.specs.SheetLine.{timing_in, timings_in, sizes_in, sheet_line_in, timing_text, timings_text, sheet_text, TimingsFit, SheetFits, TextOfSheet, SheetOnlySo, SheetReadsBack}
use Rattle.trace.specs.declared.sheet_line.SheetLine.{SheetLine}
use Rattle.trace.specs.declared.sheet_line.Sizes.{Sizes}
use Rattle.trace.proofs.Fieldwise.{length_digits, reads_field, field_then, only_feed}
use Rattle.std.proofs.lemmas.Option.{same_Some}
use Rattle.trace.proofs.Values.{kept}
use Rattle.trace.proofs.Correspond.{came}

-- what is read behind each field
abbrev on_least : ℕ → ℕ → List ℕ → Option Timing
on_least length least rest = Some (record { length = picoseconds length; least = cycles least })

abbrev on_length : ℕ → List ℕ → Option Timing
on_length length rest = with_field 2 rest (on_least length)

abbrev on_columns : ℕ → ℕ → ℕ → List ℕ → Option Sizes
on_columns banks rows columns rest = cond (is_feed rest) (Some (record { banks = banks; rows = rows; columns = columns })) None

abbrev on_rows : ℕ → ℕ → List ℕ → Option Sizes
on_rows banks rows rest = with_field 3 rest (on_columns banks rows)

abbrev on_banks : ℕ → List ℕ → Option Sizes
on_banks banks rest = with_field 5 rest (on_rows banks)

-- one timing is read from its text
reads_timing : (t : Timing) (rest : List ℕ) → t.length.0 < 16 ^ 6 → t.least.0 < 16 ^ 2 → timing_in (timing_text t ++ rest) ≡ Some t
reads_timing t rest l c =
    ap timing_in (append_assoc (digits 6 t.length.0) (digits 2 t.least.0) rest)
    ∙ reads_field 6 t.length.0 (digits 2 t.least.0 ++ rest) on_length l
    ∙ reads_field 2 t.least.0 rest (on_least t.length.0) c

length_timing : (t : Timing) → length (timing_text t) ≡ 8
length_timing t = length-append (digits 6 t.length.0) (digits 2 t.least.0) ∙ (λ i. length_digits 6 t.length.0 i + length_digits 2 t.least.0 i)

length_timings : (ts : List Timing) → length (timings_text ts) ≡ 8 * length ts
length_timings [] = refl
length_timings (t ∷ ts) = length-append (timing_text t) (timings_text ts) ∙ omega (arith, length_timing t, length_timings ts)

reads_timings : (ts : List Timing) (rest : List ℕ) → TimingsFit ts → timings_in (length ts) (timings_text ts ++ rest) ≡ Some ts
unfolding timings_in
reads_timings [] rest f = refl
reads_timings (t ∷ ts) rest f =
    let n = length ts in
    let behind = timings_text ts ++ rest in
    ap (timings_in (suc n)) (append_assoc (timing_text t) (timings_text ts) rest)
    ∙ ap (λ o. and_then o (λ u. and_then (timings_in n (drop 8 (timing_text t ++ behind))) (λ us. Some (u ∷ us)))) (reads_timing t behind f.0 f.1)
    ∙ ap (λ bs. and_then (timings_in n bs) (λ us. Some (t ∷ us))) (drop_at (timing_text t) behind 8 (length_timing t))
    ∙ ap (λ o. and_then o (λ us. Some (t ∷ us))) (reads_timings ts rest f.2)

sizes_text : SheetLine → List ℕ
sizes_text f = digits 2 f.banks ++ (digits 5 f.rows ++ (digits 3 f.columns ++ 10 ∷ []))

sizes_of : SheetLine → Sizes
sizes_of f = record { banks = f.banks; rows = f.rows; columns = f.columns }

reads_sizes : (f : SheetLine) → SheetFits f → sizes_in (sizes_text f) ≡ Some (sizes_of f)
unfolding sizes_text sizes_of
reads_sizes f h =
    reads_field 2 f.banks (digits 5 f.rows ++ (digits 3 f.columns ++ 10 ∷ [])) on_banks h.banks_fit
    ∙ reads_field 5 f.rows (digits 3 f.columns ++ 10 ∷ []) (on_rows f.banks) h.rows_fit
    ∙ reads_field 3 f.columns (10 ∷ []) (on_columns f.banks f.rows) h.columns_fit

-- what is read behind the period, and behind the timings
abbrev on_sizes : ℕ → List Timing → Sizes → Option SheetLine
on_sizes period timings sizes = Some (record { period = picoseconds period; timings = timings; banks = sizes.banks; rows = sizes.rows; columns = sizes.columns })

abbrev on_timings : ℕ → List ℕ → List Timing → Option SheetLine
on_timings period rest timings = and_then (sizes_in (drop 104 rest)) (on_sizes period timings)

abbrev on_period : ℕ → List ℕ → Option SheetLine
on_period period rest = and_then (timings_in 13 rest) (on_timings period rest)

-- the text of fields that fit is read back
reads_sheet : (f : SheetLine) → SheetFits f → sheet_line_in (sheet_text f) ≡ Some f
unfolding sizes_text sizes_of
reads_sheet f h =
    let rest = timings_text f.timings ++ sizes_text f in
    let long : length (timings_text f.timings) ≡ 104 = length_timings f.timings ∙ ap (λ n. 8 * n) h.thirteen in
    reads_field 5 f.period.0 rest on_period h.period_fits
    ∙ ap (λ o. and_then o (on_timings f.period.0 rest)) (ap (λ n. timings_in n rest) (sym h.thirteen) ∙ reads_timings f.timings (sizes_text f) h.timings_fit)
    ∙ ap (λ bs. and_then (sizes_in bs) (on_sizes f.period.0 f.timings)) (drop_at (timings_text f.timings) (sizes_text f) 104 long)
    ∙ ap (λ o. and_then o (on_sizes f.period.0 f.timings)) (reads_sizes f h)

pub sheet_reads_back : (bs : List ℕ) → SheetReadsBack bs (sheet_line_in bs)
sheet_reads_back bs = λ f t. ap sheet_line_in t.bytes ∙ reads_sheet f t.fits

-- what one timing was read from
record TimingFrom (bs : List ℕ) (t : Timing) : Type 0 where
  bytes : bs ≡ timing_text t ++ drop 8 bs
  length_fits : t.length.0 < 16 ^ 6
  least_fits : t.least.0 < 16 ^ 2

timing_from : (bs : List ℕ) (t : Timing) → timing_in bs ≡ Some t → TimingFrom bs t
timing_from bs t h =
    let a = field_then 6 bs on_length t h in
    let length = a.number in
    let b = field_then 2 (drop 6 bs) (on_least length) t a.rest in
    let least = b.number in
    let same : record { length = picoseconds length; least = cycles least } ≡ t = same_Some _ t b.rest in
    subst (λ (u : Timing). TimingFrom bs u) same (record {
      bytes =
          a.from.bytes
          ∙ ap (λ r. digits 6 length ++ r) (b.from.bytes ∙ ap (λ r. digits 2 least ++ r) (drop-drop 2 6 bs))
          ∙ sym (append_assoc (digits 6 length) (digits 2 least) (drop 8 bs));
      length_fits = a.from.small;
      least_fits = b.from.small;
    })

-- what timings were read from
record TimingsFrom (n : ℕ) (bs : List ℕ) (ts : List Timing) : Type 0 where
  bytes : bs ≡ timings_text ts ++ drop (8 * n) bs
  count : length ts ≡ n
  fit : TimingsFit ts

timings_from : (n : ℕ) (bs : List ℕ) (ts : List Timing) → timings_in n bs ≡ Some ts → TimingsFrom n bs ts
unfolding timings_in
timings_from zero bs ts h = subst (λ (us : List Timing). TimingsFrom 0 bs us) (same_Some [] ts h) (record { bytes = refl; count = refl; fit = tt })
timings_from (suc n) bs ts h =
    let a = came (timing_in bs) (λ t. and_then (timings_in n (drop 8 bs)) (λ us. Some (t ∷ us))) ts h in
    let t = a.value in
    let b = came (timings_in n (drop 8 bs)) (λ us. Some (t ∷ us)) ts a.follows in
    let us = b.value in
    let one = timing_from bs t a.is in
    let more = timings_from n (drop 8 bs) us b.is in
    subst (λ (vs : List Timing). TimingsFrom (suc n) bs vs) (same_Some (t ∷ us) ts b.follows) (record {
      bytes =
          one.bytes
          ∙ ap (λ r. timing_text t ++ r) (more.bytes ∙ ap (λ r. timings_text us ++ r) (drop-drop (8 * n) 8 bs ∙ ap (λ m. drop m bs) (omega arith)))
          ∙ sym (append_assoc (timing_text t) (timings_text us) (drop (8 * suc n) bs));
      count = ap suc more.count;
      fit = (one.length_fits, one.least_fits, more.fit);
    })

-- what the sizes were read from
record SizesFrom (bs : List ℕ) (z : Sizes) : Type 0 where
  bytes : bs ≡ digits 2 z.banks ++ (digits 5 z.rows ++ (digits 3 z.columns ++ 10 ∷ []))
  banks_fit : z.banks < 16 ^ 2
  rows_fit : z.rows < 16 ^ 5
  columns_fit : z.columns < 16 ^ 3

sizes_from : (bs : List ℕ) (z : Sizes) → sizes_in bs ≡ Some z → SizesFrom bs z
sizes_from bs z h =
    let a = field_then 2 bs on_banks z h in
    let banks = a.number in
    let r1 = drop 2 bs in
    let b = field_then 5 r1 (on_rows banks) z a.rest in
    let rows = b.number in
    let r2 = drop 5 r1 in
    let c = field_then 3 r2 (on_columns banks rows) z b.rest in
    let columns = c.number in
    let end = kept (is_feed (drop 3 r2)) (record { banks = banks; rows = rows; columns = columns }) z c.rest in
    subst (λ (y : Sizes). SizesFrom bs y) end.1 (record {
      bytes =
          a.from.bytes
          ∙ ap (λ t. digits 2 banks ++ t) (b.from.bytes
          ∙ ap (λ t. digits 5 rows ++ t) (c.from.bytes
          ∙ ap (λ t. digits 3 columns ++ t) (only_feed (drop 3 r2) end.0)));
      banks_fit = a.from.small;
      rows_fit = b.from.small;
      columns_fit = c.from.small;
    })

only_text : (bs : List ℕ) (f : SheetLine) → sheet_line_in bs ≡ Some f → TextOfSheet f bs
only_text bs f h =
    let a = field_then 5 bs on_period f h in
    let period = a.number in
    let r1 = drop 5 bs in
    let b = came (timings_in 13 r1) (on_timings period r1) f a.rest in
    let timings = b.value in
    let c = came (sizes_in (drop 104 r1)) (on_sizes period timings) f b.follows in
    let sizes = c.value in
    let ts = timings_from 13 r1 timings b.is in
    let zs = sizes_from (drop 104 r1) sizes c.is in
    subst (λ (g : SheetLine). TextOfSheet g bs) (same_Some _ f c.follows) (record {
      fits = record {
        thirteen = ts.count;
        period_fits = a.from.small;
        timings_fit = ts.fit;
        banks_fit = zs.banks_fit;
        rows_fit = zs.rows_fit;
        columns_fit = zs.columns_fit;
      };
      bytes = a.from.bytes ∙ ap (λ t. digits 5 period ++ t) (ts.bytes ∙ ap (λ t. timings_text timings ++ t) zs.bytes);
    })

only_by : (bs : List ℕ) (o : Option SheetLine) → o ≡ sheet_line_in bs → SheetOnlySo bs o
only_by bs None e = tt
only_by bs (Some f) e = only_text bs f (sym e)

pub sheet_only_so : (bs : List ℕ) (r : Option SheetLine) → r ≡ sheet_line_in bs → SheetOnlySo bs r
sheet_only_so bs r e = only_by bs r e
