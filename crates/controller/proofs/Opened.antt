-- What opening gives, once nothing stands against it.
use Rattle.std.proofs.Common.{◌≡◌, ℕ, cond, not, ◌||◌, eqb, ltb, [], Some, None, Option, sym, subst}
use Rattle.std.proofs.lemmas.Bool.{eqb-true, ltb-false, not-false, or_parts}
use Rattle.sheet.specs.declared.accepted.Sheet.{Sheet}
use Rattle.sheet.specs.declared.geometry.Chip.{Chip}
use Rattle.sheet.specs.Spans.{span}
use Rattle.rulebook.specs.Summary.{Summarises}
use Rattle.policy.specs.Meaning.{Meaning, WellShaped}
use Rattle.machine.specs.Machine.{Machine, opened, base}
use Rattle.machine.specs.Opens.{Fits}
use Rattle.machine.specs.Promises.{KeepsItsPromises, DeadlinesNear}
use Rattle.machine.specs.Determined.{AnswersDetermined}
use Rattle.machine.proofs.Offers.{passed_by}
use Rattle.machine.proofs.Kept.{deadlines_near}
use Rattle.machine.proofs.Determined.{answers_determined}
use Rattle.machine.proofs.Promised.{keeps_its_promises}
use Rattle.controller.specs.declared.stage.Stage.TheVariants.{Idle}
use Rattle.controller.specs.declared.session.Session.{Session}
use Rattle.controller.specs.Counts.{count_of}
use Rattle.controller.specs.Session.{service_of, machine, opening_refusal, Opens}

-- what the sheet, the chip, the last cycle and the policy meet against which no reason stands
fitting : (s : Sheet) (k : Chip) (last : ℕ) (p : Meaning) → WellShaped p → p.waiting ≡ [] → opening_refusal s k last p ≡ None → Fits s k last p
fitting s k last p shaped empty e =
    let third : Option ℕ = cond (ltb last 1 || ltb 4000000000 last) (Some 9) None in
    let second : Option ℕ = cond (not (eqb p.clock 0)) (Some 8) third in
    let a = passed_by (not (eqb p.span (span s k)) || not (eqb p.banks k.banks)) 7 second e in
    let b = passed_by (not (eqb p.clock 0)) 8 third a.1 in
    let c = passed_by (ltb last 1 || ltb 4000000000 last) 9 None b.1 in
    let f = or_parts (not (eqb p.span (span s k))) (not (eqb p.banks k.banks)) a.0 in
    let g = or_parts (ltb last 1) (ltb 4000000000 last) c.0 in
    record {
      last_in = (ltb-false last 1 g.0, ltb-false 4000000000 last g.1);
      shaped = shaped;
      nothing_waits = empty;
      span_fits = eqb-true p.span (span s k) (not-false (eqb p.span (span s k)) f.0);
      banks_fit = eqb-true p.banks k.banks (not-false (eqb p.banks k.banks) f.1);
    }

-- a policy that opening takes has had no call
unused : (s : Sheet) (k : Chip) (last : ℕ) (p : Meaning) → opening_refusal s k last p ≡ None → p.clock ≡ 0
unused s k last p e =
    let third : Option ℕ = cond (ltb last 1 || ltb 4000000000 last) (Some 9) None in
    let second : Option ℕ = cond (not (eqb p.clock 0)) (Some 8) third in
    let a = passed_by (not (eqb p.span (span s k)) || not (eqb p.banks k.banks)) 7 second e in
    let b = passed_by (not (eqb p.clock 0)) 8 third a.1 in
    eqb-true p.clock 0 (not-false (eqb p.clock 0) b.0)

-- a session as it is made stands for the machine as it opens
opens_as : {P : Type 0} (meaning : P → Meaning) (s : Session P) → s.clock ≡ 1 → s.engine.stage ≡ Idle → ((r : ℕ) → count_of s.counts.each r ≡ 0) → machine meaning s [] ≡ opened s.board.sheet s.board.chip s.last (meaning s.policy)
opens_as meaning s clock stage none = λ i. record { sheet = s.board.sheet; chip = s.board.chip; last = s.last; policy = meaning s.policy; clock = clock i; service = service_of (stage i); accepted = λ r. none r i; trace = [] }

pub opens : {P : Type 0} (meaning : P → Meaning) (sound : P → ℕ → ℕ → Type 0) → ((p : P) → WellShaped (meaning p)) → ((p : P) → (meaning p).clock ≡ 0 → ((meaning p).waiting ≡ []) × sound p 1 0) →
    (s : Session P) → s.clock ≡ 1 → s.engine.stage ≡ Idle → Summarises [] s.engine.book → ((r : ℕ) → count_of s.counts.each r ≡ 0) →
    opening_refusal s.board.sheet s.board.chip s.last (meaning s.policy) ≡ None → Opens meaning sound s.board.sheet s.board.chip s.last s.policy s
opens meaning sound shaped fresh s clock stage summary none e =
    let new = fresh s.policy (unused s.board.sheet s.board.chip s.last (meaning s.policy) e) in
    let fits : Fits s.board.sheet s.board.chip s.last (meaning s.policy) = fitting s.board.sheet s.board.chip s.last (meaning s.policy) (shaped s.policy) new.0 e in
    let alike : machine meaning s [] ≡ opened s.board.sheet s.board.chip s.last (meaning s.policy) = opens_as meaning s clock stage none in
    record {
      no_reason = e;
      machine_is = alike;
      sound_is = record {
        summarised = summary;
        policy_sound = subst (λ (m : Machine). sound s.policy m.clock (base m)) (sym alike) new.1;
        reached = record { sheet = s.board.sheet; chip = s.board.chip; last = s.last; policy = meaning s.policy; fits = fits; log = []; chain = sym alike };
      };
      promises = subst KeepsItsPromises (sym alike) (keeps_its_promises s.board.sheet s.board.chip s.last (meaning s.policy) fits);
      deadlines_near = subst DeadlinesNear (sym alike) (deadlines_near s.board.sheet s.board.chip s.last (meaning s.policy) fits);
      answers_determined = subst AnswersDetermined (sym alike) (answers_determined s.board.sheet s.board.chip s.last (meaning s.policy) fits);
    }
