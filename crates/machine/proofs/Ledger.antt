-- The ledger: of each requester and number, the entries not yet served and the column commands sent are together one where the number was given out, and none where it was not.
use Rattle.std.proofs.Common.{◌≡◌, ℕ, ◌+◌, ◌<◌, Bool, cond, ◌&&◌, eqb, ltb, List, [], ◌∷◌, ◌++◌, length, Some, None, filter, Option, sym, refl, ap, ◌∙◌, inl, inr, arith}
use Rattle.std.specs.List.{AllByRecursion}
use Rattle.std.proofs.lemmas.Bool.{eqb-true, eq-eqb, ne_eqb, lt-ltb, le-ltb, and_parts, cases_eq, cases_order, cases_Bool, cond-true, cond-false}
use Rattle.rulebook.specs.declared.command.Command.{Command}
use Rattle.rulebook.specs.declared.command.Kind.{Kind}
use Rattle.rulebook.specs.declared.command.Kind.TheVariants.{Idle, Activate, Precharge, Read, Write}
use Rattle.policy.specs.declared.entry.Entry.{Entry}
use Rattle.machine.specs.Machine.{Service, stays_after}
use Rattle.machine.specs.Promises.{is_column, columns_for}
use Rattle.machine.proofs.Lists.{kept_one, kept_joined, kept_last}
use Rattle.machine.proofs.Steps.{counted_in}
use Rattle.machine.proofs.Running.{unserved_of}

-- an entry is the request of this requester and number
abbrev pub named : ℕ → ℕ → Entry → Bool
named r i e = eqb e.requester r && eqb e.number i

-- how many entries of a list are, and how many column commands were sent for it
abbrev pub pending : ℕ → ℕ → List Entry → ℕ
pending r i es = length (filter (named r i) es)

abbrev pub served : ℕ → ℕ → List Command → ℕ
served r i h = length (columns_for r i h)

-- one where the number is below the count, else none
abbrev pub given_out : ℕ → ℕ → ℕ
given_out i count = cond (ltb i count) 1 0

abbrev pub Balanced : List Entry → List Command → (ℕ → ℕ) → Type 0
Balanced es h counts = (r i : ℕ) → pending r i es + served r i h ≡ given_out i (counts r)

-- one entry more, behind what is in service
pub unserved_more : (p : Entry → Bool) (o : Option Service) (front : List Entry) (e : Entry) (back : List Entry) → length (filter p (unserved_of o (front ++ (e ∷ back)))) ≡ length (filter p (unserved_of o (front ++ back))) + cond (p e) 1 0
unserved_more p None front e back = kept_joined p front e back
unserved_more p (Some s) front e back = kept_joined p (s.entry ∷ front) e back

-- one number more is given out
same_name : (counts : ℕ → ℕ) (r i : ℕ) → given_out i (counts r) + cond (eqb (counts r) i) 1 0 ≡ given_out i (counts r + 1)
same_name counts r i = elim (cases_order (counts r) i) [
  | inl e ↦ omega (arith, cond-true {A = ℕ} (eqb (counts r) i) 1 0 (eq-eqb (counts r) i e), cond-false {A = ℕ} (ltb i (counts r)) 1 0 (le-ltb i (counts r) (omega arith)), cond-true {A = ℕ} (ltb i (counts r + 1)) 1 0 (lt-ltb i (counts r + 1) (omega arith)))
  | inr o ↦ elim o [
    | inl l ↦ omega (arith, cond-false {A = ℕ} (eqb (counts r) i) 1 0 (ne_eqb (counts r) i (λ e. omega arith)), cond-false {A = ℕ} (ltb i (counts r)) 1 0 (le-ltb i (counts r) (omega arith)), cond-false {A = ℕ} (ltb i (counts r + 1)) 1 0 (le-ltb i (counts r + 1) (omega arith)))
    | inr l ↦ omega (arith, cond-false {A = ℕ} (eqb (counts r) i) 1 0 (ne_eqb (counts r) i (λ e. omega arith)), cond-true {A = ℕ} (ltb i (counts r)) 1 0 (lt-ltb i (counts r) l), cond-true {A = ℕ} (ltb i (counts r + 1)) 1 0 (lt-ltb i (counts r + 1) (omega arith)))
  ]
]

counts_more : (counts : ℕ → ℕ) (q r i : ℕ) → given_out i (counts r) + cond (eqb q r && eqb (counts q) i) 1 0 ≡ given_out i (counted_in counts q r)
counts_more counts q r i = elim (cases_eq q r) [
  | inl e ↦
      ap (λ (b : Bool). given_out i (counts r) + cond (b && eqb (counts q) i) 1 0) (eq-eqb q r e)
      ∙ ap (λ (x : ℕ). given_out i (counts r) + cond (eqb (counts x) i) 1 0) e
      ∙ same_name counts r i
      ∙ sym (ap (λ (b : Bool). given_out i (cond b (counts r + 1) (counts r))) (eq-eqb r q (sym e)))
  | inr u ↦
      ap (λ (b : Bool). given_out i (counts r) + cond (b && eqb (counts q) i) 1 0) (ne_eqb q r u)
      ∙ omega arith
      ∙ sym (ap (λ (b : Bool). given_out i (cond b (counts r + 1) (counts r))) (ne_eqb r q (λ e. u (sym e))))
]

-- an accepted offer adds its entry and its number
pub balanced_joined : (o : Option Service) (front : List Entry) (e : Entry) (back : List Entry) (h : List Command) (counts : ℕ → ℕ) → e.number ≡ counts e.requester → Balanced (unserved_of o (front ++ back)) h counts → Balanced (unserved_of o (front ++ (e ∷ back))) h (counted_in counts e.requester)
balanced_joined o front e back h counts is b r i =
    let name : cond {A = ℕ} (named r i e) 1 0 ≡ cond (eqb e.requester r && eqb (counts e.requester) i) 1 0 = ap (λ (x : ℕ). cond {A = ℕ} (eqb e.requester r && eqb x i) 1 0) is in
    omega (arith, b r i, unserved_more (named r i) o front e back, counts_more counts e.requester r i)

-- what leaves the service is what a column command is sent for
pub left_or_sent : (p : Entry → Bool) (k : Kind) (s : Service) (es : List Entry) → length (filter p (unserved_of (stays_after k s) es)) + cond (is_column k && p s.entry) 1 0 ≡ length (filter p (s.entry ∷ es))
left_or_sent p Idle s es = omega arith
left_or_sent p Activate s es = omega arith
left_or_sent p Precharge s es = omega arith
left_or_sent p Read s es = sym (kept_one (p s.entry) s.entry (filter p es))
left_or_sent p Write s es = sym (kept_one (p s.entry) s.entry (filter p es))

pub balanced_sent : (s : Service) (es : List Entry) (h : List Command) (counts : ℕ → ℕ) (c : Command) → c.requester ≡ s.entry.requester → c.number ≡ s.entry.number → Balanced (s.entry ∷ es) h counts → Balanced (unserved_of (stays_after c.kind s) es) (h ++ (c ∷ [])) counts
balanced_sent s es h counts c whose which b r i =
    let name : cond {A = ℕ} (is_column c.kind && (eqb c.requester r && eqb c.number i)) 1 0 ≡ cond (is_column c.kind && named r i s.entry) 1 0 = (λ j. cond {A = ℕ} (is_column c.kind && (eqb (whose j) r && eqb (which j) i)) 1 0) in
    omega (arith, b r i, kept_last (λ (d : Command). is_column d.kind && (eqb d.requester r && eqb d.number i)) h c, left_or_sent (named r i) c.kind s es)

-- nothing is pending where no entry has the name
pub none_pending : (r i : ℕ) (es : List Entry) → AllByRecursion (λ e. e.requester ≡ r → e.number ≡ i → ⊥) es → pending r i es ≡ 0
none_pending r i [] a = refl
none_pending r i (e ∷ es) a = elim (cases_Bool (named r i e)) [
  | inl t ↦ let p = and_parts (eqb e.requester r) (eqb e.number i) t in absurd (a.0 (eqb-true e.requester r p.0) (eqb-true e.number i p.1))
  | inr f ↦ omega (arith, kept_one (named r i e) e (filter (named r i) es), none_pending r i es a.1, cond-false {A = ℕ} (named r i e) 1 0 f)
]

pub given_below : (i count : ℕ) → i < count → given_out i count ≡ 1
given_below i count l = cond-true (ltb i count) 1 0 (lt-ltb i count l)
