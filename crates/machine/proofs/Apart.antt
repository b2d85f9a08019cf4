-- Two chains alike in ticks and one requester's offers give it the same: both go by its view.
use Rattle.std.proofs.Common.{◌≡◌, ℕ, Bool, true, false, cond, eqb, List, [], ◌∷◌, map, sym, refl, ap, ◌∙◌, subst}
use Rattle.policy.specs.declared.entry.Request.{Request}
use Rattle.policy.specs.declared.entry.Entry.{Entry}
use Rattle.policy.specs.Meaning.{own}
use Rattle.machine.specs.Machine.{Machine, opened, Event, offer, tick, Answer, Exchange, Chain}
use Rattle.machine.specs.Promises.{columns_of, concerns, without_others, is_offer_of, answers_to, ApartFromOthers}
use Rattle.machine.specs.Opens.{WheneverOpened}
use Rattle.machine.proofs.Logged.{logged}
use Rattle.machine.proofs.Reached.{Reached, opened_reached, reached_step}
use Rattle.machine.proofs.Views.{View, gone, view_next, views, replies, due_command, Seen, gone_is}
use Rattle.machine.proofs.Followed.{OfferFollows, Follows, follows}

-- a log in a requester's eyes
abbrev GoesBy : Machine → ℕ → View → List Answer → List Event → Machine → Type 0
GoesBy start r v told es n = (told ≡ replies start v es) × Seen r n (views start v es)

after_own : (b : Bool) (start : Machine) (r : ℕ) (v : View) (q : Request) (a : Answer) (k : Machine) (told : List Answer) (es : List Event) (n : Machine) → OfferFollows b start r v q a k → ((w : View) → Seen r k w → GoesBy start r w told es n) → GoesBy start r v (cond b (a ∷ told) told) (cond b (offer q ∷ es) es) n
after_own true start r v q a k told es n f then =
    let t = then (view_next start v (offer q)) f.1 in
    (λ i. f.0 i ∷ t.0 i, t.1)
after_own false start r v q a k told es n f then = then v f

after_event : (e : Event) (start : Machine) (r : ℕ) (v : View) (a : Answer) (k : Machine) (told : List Answer) (es : List Event) (n : Machine) → Follows start r v e a k → ((w : View) → Seen r k w → GoesBy start r w told es n) → GoesBy start r v (cond (is_offer_of r e) (a ∷ told) told) (cond (concerns r e) (e ∷ es) es) n
after_event (offer q) start r v a k told es n f then = after_own (eqb q.requester r) start r v q a k told es n f then
after_event tick start r v a k told es n f then = then (view_next start v tick) f

pub goes_by : (start : Machine) (r : ℕ) (log : List Exchange) (m n : Machine) (v : View) → Reached start m → Seen r m v → Chain m log n → GoesBy start r v (answers_to r log) (without_others r log) n
goes_by start r [] m n v l seen c = (refl, subst (λ (k : Machine). Seen r k v) c seen)
goes_by start r (x ∷ log) m n v l seen c =
    after_event x.event start r v x.answer c.0 (answers_to r log) (without_others r log) n (follows r start m x.event x.answer c.0 v l seen c.1)
    (λ w s. goes_by start r log c.0 n w (reached_step start m x.event x.answer c.0 l c.1) s c.2)

-- at the opening nothing is promised
abbrev first_view : View
first_view = record { clock = 1; promised = [] }

pub apart_from_others : WheneverOpened ApartFromOthers
apart_from_others s k last p f o r log log' n n' c c' same =
    let start : Machine = opened s k last p in
    let l = opened_reached s k last p f o in
    let seen : Seen r start first_view = record { clock_is = refl; count_is = refl; line = ap (λ (es : List Entry). map due_command (own r es)) f.nothing_waits } in
    let a = goes_by start r log start n first_view l seen c in
    let b = goes_by start r log' start n' first_view l seen c' in
    let t = logged s k last p f log n c in
    let u = logged s k last p f log' n' c' in (
      a.0 ∙ ap (replies start first_view) same ∙ sym b.0,
      ap (columns_of r) (sym t.told.trace_is) ∙ gone_is r n (views start first_view (without_others r log)) t.runs.0 a.1
          ∙ ap (λ (es : List Event). gone (views start first_view es)) same
          ∙ sym (gone_is r n' (views start first_view (without_others r log')) u.runs.0 b.1) ∙ ap (columns_of r) u.told.trace_is,
    )
