-- The machine that a session stands for, what calls on it rest on, and what each call does.
use Rattle.std.specs.Prelude.{◌≡◌, ℕ, cond, not, ◌||◌, List, [], Some, None, Ok, Err, Option, Result, ◌==◌, nat_lt}
use Rattle.sheet.specs.declared.accepted.Sheet.{Sheet}
use Rattle.sheet.specs.declared.geometry.Chip.{Chip}
use Rattle.sheet.specs.Spans.{span}
use Rattle.rulebook.specs.declared.command.Command.{Command}
use Rattle.rulebook.specs.Summary.{Summarises}
use Rattle.policy.specs.Meaning.{Meaning}
use Rattle.machine.specs.Machine.{Service, Machine, opened, base, extended, Event, Answer, accepted, ticked, refused, Step, Exchange, Chain}
use Rattle.machine.specs.Promises.{KeepsItsPromises, DeadlinesNear}
use Rattle.machine.specs.Determined.{AnswersDetermined}
use Rattle.machine.specs.Opens.{Fits}
use Rattle.controller.specs.declared.refusals.OpeningRefusal.{OpeningRefusal}
use Rattle.controller.specs.declared.refusals.OfferRefusal.{OfferRefusal}
use Rattle.controller.specs.declared.refusals.TickRefusal.{TickRefusal}
use Rattle.controller.specs.declared.stage.Stage.{Stage}
use Rattle.controller.specs.declared.stage.Stage.TheVariants.{Idle, Serving}
use Rattle.controller.specs.declared.session.Session.{Session}
use Rattle.controller.specs.declared.receipt.Receipt.{Receipt}
use Rattle.controller.specs.Refusals.{opening_number, offer_number, tick_number}
use Rattle.controller.specs.Counts.{count_of}

-- What a stage has in service.
abbrev pub service_of : Stage → Option Service
service_of Idle = None
service_of (Serving v) = Some (record { entry = v.entry; start = v.start })

-- The machine that a session stands for, where these are the commands that it has sent.
abbrev pub machine : {P : Type 0} → (P → Meaning) → Session P → List Command → Machine
machine meaning s h = record { sheet = s.board.sheet; chip = s.board.chip; last = s.last; policy = meaning s.policy; clock = s.clock; service = service_of s.engine.stage; accepted = count_of s.counts.each; trace = h }

-- A chain of calls leads from an opened machine to this one.
pub record Reached (m : Machine) : Type 0 where
  pub sheet : Sheet
  pub chip : Chip
  pub last : ℕ
  pub policy : Meaning
  pub fits : Fits sheet chip last policy
  pub log : List Exchange
  pub chain : Chain (opened sheet chip last policy) log m

-- What a session keeps from call to call, where these are the commands that it has sent: its record stands for them, its policy is sound at the clock and base, and its machine is one that calls lead to.
pub record Sound {P : Type 0} (meaning : P → Meaning) (sound : P → ℕ → ℕ → Type 0) (s : Session P) (h : List Command) : Type 0 where
  pub summarised : Summarises h s.engine.book
  pub policy_sound : sound s.policy s.clock (base (machine meaning s h))
  pub reached : Reached (machine meaning s h)

-- Why opening is refused, the first reason that holds: 7, the policy's span or bank count is not that of the sheet and the chip; 8, the policy was used already; 9, the last cycle is not 1 to 4,000,000,000.
abbrev pub opening_refusal : Sheet → Chip → ℕ → Meaning → Option ℕ
opening_refusal s k last p =
    cond (not (p.span == span s k) || not (p.banks == k.banks)) (Some 7)
    (cond (not (p.clock == 0)) (Some 8)
    (cond (nat_lt last 1 || nat_lt 4000000000 last) (Some 9) None))

-- A session is opened: nothing stands against it, it is the machine as it opens, it is sound with nothing sent, and whatever calls follow, the machine keeps its promises, no deadline lies past the session, and the calls decide the answers.
pub record Opens {P : Type 0} (meaning : P → Meaning) (sound : P → ℕ → ℕ → Type 0) (sheet : Sheet) (chip : Chip) (last : ℕ) (policy : P) (s : Session P) : Type 0 where
  pub no_reason : opening_refusal sheet chip last (meaning policy) ≡ None
  pub machine_is : machine meaning s [] ≡ opened sheet chip last (meaning policy)
  pub sound_is : Sound meaning sound s []
  pub promises : KeepsItsPromises (machine meaning s [])
  pub deadlines_near : DeadlinesNear (machine meaning s [])
  pub answers_determined : AnswersDetermined (machine meaning s [])

-- Opening is refused: with the first reason that holds, and the policy is handed back as it was.
abbrev pub HandsBack : {P : Type 0} → (P → Meaning) → Sheet → Chip → ℕ → P → OpeningRefusal → P → Type 0
HandsBack meaning sheet chip last policy why back = (opening_refusal sheet chip last (meaning policy) ≡ Some (opening_number why)) × (back ≡ policy)

-- What the machine would have answered to an offer.
abbrev pub offer_answer : Result Receipt OfferRefusal → Answer
offer_answer (Ok a) = accepted a.number a.deadline
offer_answer (Err e) = refused (offer_number e)

-- What the machine would have answered to a tick.
abbrev pub tick_answer : Result (Option Command) TickRefusal → Answer
tick_answer (Ok c) = ticked c
tick_answer (Err e) = refused (tick_number e)

-- The number of a refused offer, if it was refused.
abbrev pub offer_refused : Result Receipt OfferRefusal → Option ℕ
offer_refused (Ok a) = None
offer_refused (Err e) = Some (offer_number e)

-- The number of a refused tick, if it was refused.
abbrev pub tick_refused : Result (Option Command) TickRefusal → Option ℕ
tick_refused (Ok c) = None
tick_refused (Err e) = Some (tick_number e)

-- Why a tick is refused: 14, the last cycle has been ticked.
abbrev pub tick_refusal : Machine → Option ℕ
tick_refusal m = cond (nat_lt m.last m.clock) (Some 14) None

-- A refusal leaves the session as it was.
abbrev pub UnlessRefused : {P A E : Type 0} → Result A E → Session P → Session P → Type 0
UnlessRefused (Ok a) before after = Unit {0}
UnlessRefused (Err e) before after = after ≡ before

-- The commands sent once a tick was answered.
abbrev pub sent_after : List Command → Result (Option Command) TickRefusal → List Command
sent_after h (Ok c) = extended h c
sent_after h (Err e) = h

-- A call takes a session that is sound after some commands, by a step of its machine with this answer, to one that is sound after the commands sent then.
abbrev pub Carries : {P : Type 0} → (P → Meaning) → (P → ℕ → ℕ → Type 0) → Session P → Event → Answer → Session P → (List Command → List Command) → Type 0
Carries meaning sound s event answer t grow =
    (h : List Command) → Sound meaning sound s h → Step (machine meaning s h) event answer (machine meaning t (grow h)) × Sound meaning sound t (grow h)
