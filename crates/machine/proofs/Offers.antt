-- What an accepted offer is: a read or write of the chip, by a requester with a place left.
use Rattle.std.proofs.Common.{◌≡◌, ℕ, ◌+◌, ◌-◌, ◌<◌, ◌≤◌, Bool, true, false, cond, ◌||◌, eqb, ltb, leb, length, Some, None, Option, refl, subst, arith}
use Rattle.std.proofs.lemmas.Bool.{leb-false, ltb-false, or_parts}
use Rattle.rulebook.specs.declared.command.Kind.{Kind}
use Rattle.rulebook.specs.declared.command.Kind.TheVariants.{Read, Write}
use Rattle.rulebook.specs.Book.{Column}
use Rattle.policy.specs.declared.entry.Request.{Request}
use Rattle.policy.specs.Meaning.{WellShaped, own}
use Rattle.machine.specs.Machine.{Machine, asked_kind, improper_as, improper, offer_refusal, entry_for}
use Rattle.machine.proofs.Stages.{Proper}

-- where no reason is given, the first one does not hold and none of the others
pub passed_by : (b : Bool) (why : ℕ) (o : Option ℕ) → cond b (Some why) o ≡ None → (b ≡ false) × (o ≡ None)
passed_by true why o e = cc
passed_by false why o e = (refl, e)

-- what an offer meets against which no reason stands
pub record Acceptable (m : Machine) (q : Request) : Type 0 where
  pub known : q.requester < m.policy.requesters
  pub fine : improper m.chip q ≡ false
  pub early : (m.clock - 1) + m.policy.reach ≤ m.last
  pub room : length (own q.requester m.policy.waiting) < m.policy.places q.requester

pub acceptable : (m : Machine) (q : Request) → offer_refusal m q ≡ None → Acceptable m q
acceptable m q e =
    let full : Bool = leb (m.policy.places q.requester) (length (own q.requester m.policy.waiting)) in
    let late : Bool = ltb m.last ((m.clock - 1) + m.policy.reach) in
    let third : Option ℕ = cond full (Some 13) None in
    let second : Option ℕ = cond late (Some 12) third in
    let first : Option ℕ = cond (improper m.chip q) (Some 11) second in
    let a = passed_by (leb m.policy.requesters q.requester) 10 first e in
    let b = passed_by (improper m.chip q) 11 second a.1 in
    let c = passed_by late 12 third b.1 in
    let d = passed_by full 13 None c.1 in
    record {
      known = leb-false m.policy.requesters q.requester a.0;
      fine = b.0;
      early = ltb-false m.last ((m.clock - 1) + m.policy.reach) c.0;
      room = leb-false (m.policy.places q.requester) (length (own q.requester m.policy.waiting)) d.0;
    }

-- only reads and writes are asked for
asks_column : (b d : Bool) (kind : Kind) → cond b (Some Read) (cond d (Some Write) None) ≡ Some kind → Column kind
asks_column true d kind e = let w : Read ≡ kind = cc in subst Column w tt
asks_column false true kind e = let w : Write ≡ kind = cc in subst Column w tt
asks_column false false kind e = cc

-- an accepted request can be served under the policy's name for its bank
pub entry_proper : (m : Machine) (q : Request) (number : ℕ) (kind : Kind) (deadline : ℕ) → Acceptable m q → asked_kind q.kind ≡ Some kind → WellShaped m.policy → m.policy.banks ≡ m.chip.banks → Proper m.chip (entry_for m.policy q number kind deadline)
entry_proper m q number kind deadline a is shaped fits =
    let inside : improper_as (Some kind) m.chip q ≡ false = subst (λ (o : Option Kind). improper_as o m.chip q ≡ false) is a.fine in
    let f = or_parts (leb m.chip.banks q.bank) (leb m.chip.rows q.row || leb m.chip.columns q.column) inside in
    let g = or_parts (leb m.chip.rows q.row) (leb m.chip.columns q.column) f.1 in
    let bank : q.bank < m.chip.banks = leb-false m.chip.banks q.bank f.0 in
    record {
      moves = asks_column (eqb q.kind 3) (eqb q.kind 4) kind is;
      bank_in = omega (arith, shaped.name_inside q.bank q.row (omega arith));
      row_in = leb-false m.chip.rows q.row g.0;
      column_in = leb-false m.chip.columns q.column g.1;
    }
