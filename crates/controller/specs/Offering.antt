-- What comes before the policy is asked to take a request.
use Rattle.std.specs.Prelude.{◌≡◌, ℕ, ◌+◌, ◌-◌, Bool, cond, Some, None, Ok, Err, Option, Result, nat_le, nat_lt}
use Rattle.rulebook.specs.declared.command.Kind.{Kind}
use Rattle.policy.specs.declared.entry.Request.{Request}
use Rattle.policy.specs.declared.entry.Entry.{Entry}
use Rattle.policy.specs.Meaning.{Meaning, HasPlace, Full, Taken}
use Rattle.machine.specs.Machine.{Service, Machine, base_at, entry_for}
use Rattle.controller.specs.declared.counts.Counts.{Counts}
use Rattle.controller.specs.declared.receipt.Receipt.{Receipt}
use Rattle.controller.specs.declared.refusals.OfferRefusal.{OfferRefusal}
use Rattle.controller.specs.declared.refusals.OfferRefusal.TheVariants.{Requester, Request as Improper, Late, Full as FullUp}
use Rattle.controller.specs.Counts.{count_of, counted}
use Rattle.controller.specs.Requests.{proper_kind}

-- What a request asks for, where it is proper and not too late.
abbrev pub in_time : Option Kind → Bool → Result Kind OfferRefusal
in_time None late = Err Improper
in_time (Some d) late = cond late (Err Late) (Ok d)

-- What a request asks for, or the first reason against it that is not the policy's: no such requester, no proper request, or too late.
abbrev pub wanted : Machine → Request → Result Kind OfferRefusal
wanted m q =
    cond (nat_le m.policy.requesters q.requester) (Err Requester)
    (in_time (proper_kind m.chip q) (nat_lt m.last ((m.clock - 1) + m.policy.reach)))

-- A request as it is handed to the policy: its bank as it was offered, and no deadline yet.
abbrev pub entry_of : Request → ℕ → Kind → Entry
entry_of q number kind = record { requester = q.requester; number = number; kind = kind; bank = q.bank; row = q.row; column = q.column; deadline = 0 }

-- What the policy and the counts make of a request of this kind: its number is the count of its requester, the policy takes it and it is counted; or all places are taken, and neither changes.
abbrev pub TakesIn : {P : Type 0} → (P → Meaning) → (P → ℕ → ℕ → Type 0) → ℕ → Option Service → Request → Kind → P → Counts → Result Receipt OfferRefusal → P → Counts → Type 0
TakesIn meaning sound clock service q kind p n (Ok a) p' n' =
    (a.number ≡ count_of n.each q.requester)
    × HasPlace (meaning p) q.requester
    × (sound p clock (base_at clock (meaning p).span service) → Taken (meaning p) clock (base_at clock (meaning p).span service) (entry_for (meaning p) q a.number kind a.deadline) (meaning p') × sound p' clock (base_at clock (meaning p).span service))
    × (n'.each ≡ counted n.each q.requester)
TakesIn meaning sound clock service q kind p n (Err e) p' n' = (e ≡ FullUp) × Full (meaning p) q.requester × (p' ≡ p) × (n' ≡ n)
