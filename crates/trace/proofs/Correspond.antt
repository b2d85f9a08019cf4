-- Lines and proper commands correspond one to one.
use Rattle.std.proofs.Common.{◌≡◌, ℕ, ◌^◌, ◌<◌, Bool, true, false, cond, ◌&&◌, eqb, ltb, ◌⊎◌, List, [], ◌∷◌, ◌++◌, drop, Some, None, Option, sym, refl, ap, ◌∙◌, subst, inl, inr, append_assoc, arith, ltb-true, eqb-true}
use Rattle.std.proofs.lemmas.List.{drop_at}
use Rattle.std.proofs.lemmas.Bool.{lt-ltb, and_parts}
use Rattle.rulebook.specs.Kinds.{kind_number, kind_of}
use Rattle.rulebook.specs.declared.command.Kind.{Kind}
use Rattle.rulebook.specs.declared.command.Kind.TheVariants.{Idle, Activate, Precharge, Read, Write}
use Rattle.rulebook.specs.declared.command.Command.{Command}
use Rattle.trace.specs.Digits.{digits}
use Rattle.trace.specs.Fields.{and_then, with_field, is_feed}
use Rattle.trace.specs.Line.{fits, blank, proper, line_of, front_in, behind_front, back_in, command_of, command_in}
use Rattle.trace.specs.declared.line.Front.{Front}
use Rattle.trace.specs.declared.line.Back.{Back}
use Rattle.std.proofs.lemmas.Option.{same_Some}
use Rattle.trace.proofs.Values.{kept}
use Rattle.trace.proofs.Fieldwise.{reads_field, field_then, only_feed, length_digits}

-- a kind and its number
known_kind : (k : Kind) → kind_of (kind_number k) ≡ Some k
known_kind Idle = refl
known_kind Activate = refl
known_kind Precharge = refl
known_kind Read = refl
known_kind Write = refl

one_kind : (v : Bool) (n m : ℕ) (this k : Kind) (rest : Option Kind) → v ≡ eqb n m → cond v (Some this) rest ≡ Some k → ((n ≡ m) × (this ≡ k)) ⊎ (rest ≡ Some k)
one_kind true n m this k rest e h = inl (eqb-true n m (sym e), cc)
one_kind false n m this k rest e h = inr h

pub kind_digit : (k : Kind) → kind_number k < 16 ^ 1
kind_digit Idle = omega arith
kind_digit Activate = omega arith
kind_digit Precharge = omega arith
kind_digit Read = omega arith
kind_digit Write = omega arith

-- the parts of a proper command fit their digits
record Fitting (c : Command) : Type 0 where
  cycle_fits : c.cycle < 16 ^ 8
  bank_fits : c.bank < 16 ^ 1
  row_fits : c.row < 16 ^ 4
  column_fits : c.column < 16 ^ 3
  requester_fits : c.requester < 16 ^ 1
  number_fits : c.number < 16 ^ 8
  leaves_blank : blank c ≡ true

fitting : (c : Command) → proper c ≡ true → Fitting c
fitting c h =
    let all = and_parts (fits c) (blank c) h in
    let f1 = and_parts (ltb c.cycle (16 ^ 8)) _ all.0 in
    let f2 = and_parts (ltb c.bank (16 ^ 1)) _ f1.1 in
    let f3 = and_parts (ltb c.row (16 ^ 4)) _ f2.1 in
    let f4 = and_parts (ltb c.column (16 ^ 3)) _ f3.1 in
    let f5 = and_parts (ltb c.requester (16 ^ 1)) _ f4.1 in
    record {
      cycle_fits = ltb-true _ _ f1.0;
      bank_fits = ltb-true _ _ f2.0;
      row_fits = ltb-true _ _ f3.0;
      column_fits = ltb-true _ _ f4.0;
      requester_fits = ltb-true _ _ f5.0;
      number_fits = ltb-true _ _ f5.1;
      leaves_blank = all.1;
    }

proper_by : (c : Command) → Fitting c → proper c ≡ true
proper_by c f = λ i.
    (lt-ltb _ _ f.cycle_fits i
    && (lt-ltb _ _ f.bank_fits i
    && (lt-ltb _ _ f.row_fits i
    && (lt-ltb _ _ f.column_fits i
    && (lt-ltb _ _ f.requester_fits i
    && lt-ltb _ _ f.number_fits i)))))
    && f.leaves_blank i

-- the fields one behind the other
pub in_a_row : (c : Command) → line_of c ≡ digits 8 c.cycle ++ (digits 1 (kind_number c.kind) ++ (digits 1 c.bank ++ (digits 4 c.row ++ (digits 3 c.column ++ (digits 1 c.requester ++ (digits 8 c.number ++ 10 ∷ []))))))
in_a_row c = simp append_assoc

-- the bytes behind the first fields of a command
pub back_line : Command → List ℕ
back_line c = digits 3 c.column ++ (digits 1 c.requester ++ (digits 8 c.number ++ 10 ∷ []))

front_line : Command → List ℕ → List ℕ
front_line c rest = digits 8 c.cycle ++ (digits 1 (kind_number c.kind) ++ (digits 1 c.bank ++ (digits 4 c.row ++ rest)))

front_of : Command → Front
front_of c = record { cycle = c.cycle; kind = c.kind; bank = c.bank; row = c.row }

back_of : Command → Back
back_of c = record { column = c.column; requester = c.requester; number = c.number }

-- what is read behind each of the first fields
abbrev on_row : ℕ → Kind → ℕ → ℕ → List ℕ → Option Front
on_row cycle kind bank row rest = Some (record { cycle = cycle; kind = kind; bank = bank; row = row })

abbrev on_bank : ℕ → Kind → ℕ → List ℕ → Option Front
on_bank cycle kind bank rest = with_field 4 rest (on_row cycle kind bank)

abbrev on_known : ℕ → List ℕ → Kind → Option Front
on_known cycle rest kind = with_field 1 rest (on_bank cycle kind)

abbrev on_kind : ℕ → ℕ → List ℕ → Option Front
on_kind cycle kind rest = and_then (kind_of kind) (on_known cycle rest)

abbrev on_cycle : ℕ → List ℕ → Option Front
on_cycle cycle rest = with_field 1 rest (on_kind cycle)

-- and behind each of the last
abbrev on_number : ℕ → ℕ → ℕ → List ℕ → Option Back
on_number column requester number rest = cond (is_feed rest) (Some (record { column = column; requester = requester; number = number })) None

abbrev on_requester : ℕ → ℕ → List ℕ → Option Back
on_requester column requester rest = with_field 8 rest (on_number column requester)

abbrev on_column : ℕ → List ℕ → Option Back
on_column column rest = with_field 1 rest (on_requester column)

reads_front : (c : Command) (rest : List ℕ) → Fitting c → front_in (front_line c rest) ≡ Some (front_of c)
unfolding front_line front_of
reads_front c rest f =
    let r4 = digits 4 c.row ++ rest in
    let r3 = digits 1 c.bank ++ r4 in
    reads_field 8 c.cycle (digits 1 (kind_number c.kind) ++ r3) on_cycle f.cycle_fits
    ∙ reads_field 1 (kind_number c.kind) r3 (on_kind c.cycle) (kind_digit c.kind)
    ∙ ap (λ o. and_then o (on_known c.cycle r3)) (known_kind c.kind)
    ∙ reads_field 1 c.bank r4 (on_bank c.cycle c.kind) f.bank_fits
    ∙ reads_field 4 c.row rest (on_row c.cycle c.kind c.bank) f.row_fits

passes_front : (c : Command) (rest : List ℕ) → behind_front (front_line c rest) ≡ rest
unfolding front_line
passes_front c rest =
    ap (λ t. drop 4 (drop 1 (drop 1 t))) (drop_at (digits 8 c.cycle) _ 8 (length_digits 8 c.cycle))
    ∙ ap (λ t. drop 4 (drop 1 t)) (drop_at (digits 1 (kind_number c.kind)) _ 1 (length_digits 1 (kind_number c.kind)))
    ∙ ap (λ t. drop 4 t) (drop_at (digits 1 c.bank) _ 1 (length_digits 1 c.bank))
    ∙ drop_at (digits 4 c.row) rest 4 (length_digits 4 c.row)

reads_back : (c : Command) → Fitting c → back_in (back_line c) ≡ Some (back_of c)
unfolding back_line back_of
reads_back c f =
    let r2 = digits 8 c.number ++ 10 ∷ [] in
    reads_field 3 c.column (digits 1 c.requester ++ r2) on_column f.column_fits
    ∙ reads_field 1 c.requester r2 (on_requester c.column) f.requester_fits
    ∙ reads_field 8 c.number (10 ∷ []) (on_number c.column c.requester) f.number_fits

-- a proper command is read from its line
pub reads_line : (c : Command) → proper c ≡ true → command_in (line_of c) ≡ Some c
unfolding front_line back_line front_of back_of
reads_line c h =
    let f = fitting c h in
    let back = back_line c in
    ap command_in (in_a_row c)
    ∙ ap (λ o. and_then o (λ g. and_then (back_in (behind_front (front_line c back))) (λ b. cond (blank (command_of g b)) (Some (command_of g b)) None))) (reads_front c back f)
    ∙ ap (λ t. and_then (back_in t) (λ b. cond (blank (command_of (front_of c) b)) (Some (command_of (front_of c) b)) None)) (passes_front c back)
    ∙ ap (λ o. and_then o (λ b. cond (blank (command_of (front_of c) b)) (Some (command_of (front_of c) b)) None)) (reads_back c f)
    ∙ ap (λ v. cond v (Some c) None) f.leaves_blank

-- what was there before something follows of it
pub record Came {X Y : Type 0} (o : Option Y) (f : Y → Option X) (x : X) : Type 0 where
  pub value : Y
  pub is : o ≡ Some value
  pub follows : f value ≡ Some x

pub came : {X Y : Type 0} (o : Option Y) (f : Y → Option X) (x : X) → and_then o f ≡ Some x → Came o f x
came None f x h = cc
came (Some y) f x h = record { value = y; is = refl; follows = h }

-- the number of a kind that was known by it
kind_back : (n : ℕ) (k : Kind) → kind_of n ≡ Some k → n ≡ kind_number k
kind_back n k h = elim (one_kind (eqb n 0) n 0 Idle k _ refl h) [
  | inl p ↦ p.0 ∙ ap kind_number p.1
  | inr h1 ↦ elim (one_kind (eqb n 1) n 1 Activate k _ refl h1) [
    | inl p ↦ p.0 ∙ ap kind_number p.1
    | inr h2 ↦ elim (one_kind (eqb n 2) n 2 Precharge k _ refl h2) [
      | inl p ↦ p.0 ∙ ap kind_number p.1
      | inr h3 ↦ elim (one_kind (eqb n 3) n 3 Read k _ refl h3) [
        | inl p ↦ p.0 ∙ ap kind_number p.1
        | inr h4 ↦ elim (one_kind (eqb n 4) n 4 Write k _ refl h4) [
          | inl p ↦ p.0 ∙ ap kind_number p.1
          | inr h5 ↦ cc
        ]
      ]
    ]
  ]
]

-- what the first fields were read from
record FrontFrom (bs : List ℕ) (f : Front) : Type 0 where
  bytes : bs ≡ digits 8 f.cycle ++ (digits 1 (kind_number f.kind) ++ (digits 1 f.bank ++ (digits 4 f.row ++ behind_front bs)))
  cycle_fits : f.cycle < 16 ^ 8
  bank_fits : f.bank < 16 ^ 1
  row_fits : f.row < 16 ^ 4

front_from : (bs : List ℕ) (f : Front) → front_in bs ≡ Some f → FrontFrom bs f
front_from bs f h =
    let t1 = field_then 8 bs on_cycle f h in
    let cycle = t1.number in
    let r1 = drop 8 bs in
    let t2 = field_then 1 r1 (on_kind cycle) f t1.rest in
    let r2 = drop 1 r1 in
    let k = came (kind_of t2.number) (on_known cycle r2) f t2.rest in
    let kind = k.value in
    let t3 = field_then 1 r2 (on_bank cycle kind) f k.follows in
    let bank = t3.number in
    let r3 = drop 1 r2 in
    let t4 = field_then 4 r3 (on_row cycle kind bank) f t3.rest in
    let row = t4.number in
    let same : record { cycle = cycle; kind = kind; bank = bank; row = row } ≡ f = same_Some _ f t4.rest in
    subst (λ (g : Front). FrontFrom bs g) same (record {
      bytes =
          t1.from.bytes
          ∙ ap (λ t. digits 8 cycle ++ t) (t2.from.bytes
          ∙ (λ i. digits 1 (kind_back t2.number kind k.is i) ++ (t3.from.bytes
          ∙ ap (λ t. digits 1 bank ++ t) t4.from.bytes) i));
      cycle_fits = t1.from.small;
      bank_fits = t3.from.small;
      row_fits = t4.from.small;
    })

-- what the last fields were read from
record BackFrom (bs : List ℕ) (b : Back) : Type 0 where
  bytes : bs ≡ digits 3 b.column ++ (digits 1 b.requester ++ (digits 8 b.number ++ 10 ∷ []))
  column_fits : b.column < 16 ^ 3
  requester_fits : b.requester < 16 ^ 1
  number_fits : b.number < 16 ^ 8

back_from : (bs : List ℕ) (b : Back) → back_in bs ≡ Some b → BackFrom bs b
back_from bs b h =
    let t1 = field_then 3 bs on_column b h in
    let column = t1.number in
    let r1 = drop 3 bs in
    let t2 = field_then 1 r1 (on_requester column) b t1.rest in
    let requester = t2.number in
    let r2 = drop 1 r1 in
    let t3 = field_then 8 r2 (on_number column requester) b t2.rest in
    let number = t3.number in
    let r3 = drop 8 r2 in
    let end = kept (is_feed r3) (record { column = column; requester = requester; number = number }) b t3.rest in
    subst (λ (g : Back). BackFrom bs g) end.1 (record {
      bytes =
          t1.from.bytes
          ∙ ap (λ t. digits 3 column ++ t) (t2.from.bytes
          ∙ ap (λ t. digits 1 requester ++ t) (t3.from.bytes
          ∙ ap (λ t. digits 8 number ++ t) (only_feed r3 end.0)));
      column_fits = t1.from.small;
      requester_fits = t2.from.small;
      number_fits = t3.from.small;
    })

-- a line that is read is the line of a proper command
pub record LineOf (bs : List ℕ) (c : Command) : Type 0 where
  pub is_proper : proper c ≡ true
  pub bytes : bs ≡ line_of c

pub only_line : (bs : List ℕ) (c : Command) → command_in bs ≡ Some c → LineOf bs c
only_line bs c h =
    let front = came (front_in bs) _ c h in
    let f = front.value in
    let back = came (back_in (behind_front bs)) _ c front.follows in
    let b = back.value in
    let end = kept (blank (command_of f b)) (command_of f b) c back.follows in
    let ff = front_from bs f front.is in
    let bf = back_from (behind_front bs) b back.is in
    subst (λ (d : Command). LineOf bs d) end.1 (record {
      is_proper = proper_by (command_of f b) (record {
        cycle_fits = ff.cycle_fits;
        bank_fits = ff.bank_fits;
        row_fits = ff.row_fits;
        column_fits = bf.column_fits;
        requester_fits = bf.requester_fits;
        number_fits = bf.number_fits;
        leaves_blank = end.0;
      });
      bytes =
          ff.bytes
          ∙ ap (λ t. digits 8 f.cycle ++ (digits 1 (kind_number f.kind) ++ (digits 1 f.bank ++ (digits 4 f.row ++ t)))) bf.bytes
          ∙ sym (in_a_row (command_of f b));
    })
