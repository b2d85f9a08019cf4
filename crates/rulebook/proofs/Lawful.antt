-- When a command is lawful: it stays so in later cycles, and becomes so once the stretch of its kind has passed.
use Rattle.std.proofs.Common.{◌≡◌, ℕ, ◌+◌, ◌<◌, ◌≤◌, max, Bool, true, false, cond, ◌≢◌, List, [], ◌∷◌, Some, None, sym, subst, arith}
use Rattle.sheet.specs.declared.accepted.Sheet.{Sheet}
use Rattle.sheet.specs.declared.geometry.Chip.{Chip}
use Rattle.sheet.specs.Spans.{read_to_write, write_to_read, write_to_precharge, to_precharge, to_activate, to_column}
use Rattle.rulebook.specs.declared.command.Command.{Command}
use Rattle.rulebook.specs.declared.command.Kind.TheVariants.{Activate, Precharge, Read, Write}
use Rattle.rulebook.specs.declared.rule.Rule.TheVariants.{CyclesRise, InsideChip, ActivateClosed, PrechargeOpen, ColumnOpen, ActivateActivateSame, ActivateActivateOther, ActivatePrecharge, ActivateColumn, PrechargeActivate, ColumnColumn, ReadWrite, WriteRead, ReadPrecharge, WritePrecharge, FourActivates}
use Rattle.rulebook.specs.Kinds.{same_kind}
use Rattle.rulebook.specs.Book.{Every, Of, At, Elsewhere, Column, Apart, open_row, activates, Inside, AllBefore, Lawful}
use Rattle.rulebook.specs.Laws.{in_cycle, StaysLawful, PrechargeInTime, ActivateInTime, ColumnInTime}
use Rattle.rulebook.proofs.Lists.{every_map, every_at}

-- a gap that has passed by a cycle has passed by every later one
later : (P : Command → Type 0) (gap : ℕ) (h : List Command) (c : Command) (t : ℕ) → c.cycle ≤ t → Apart P gap h c → Apart P gap h (in_cycle t c)
later P gap h c t le all = every_map {P = λ a. P a → a.cycle + gap ≤ c.cycle} (λ a f p. omega (arith, f p)) h all

pub stays_lawful : StaysLawful
stays_lawful s k h c t lawful le CyclesRise = every_map {P = λ a. a.cycle < c.cycle} (λ a lt. omega arith) h (lawful CyclesRise)
stays_lawful s k h c t lawful le InsideChip = lawful InsideChip
stays_lawful s k h c t lawful le ActivateClosed = lawful ActivateClosed
stays_lawful s k h c t lawful le PrechargeOpen = lawful PrechargeOpen
stays_lawful s k h c t lawful le ColumnOpen = lawful ColumnOpen
stays_lawful s k h c t lawful le ActivateActivateSame = λ d. later (At Activate c.bank) s.rc.0 h c t le (lawful ActivateActivateSame d)
stays_lawful s k h c t lawful le ActivateActivateOther = λ d. later (Elsewhere Activate c.bank) s.rrd.0 h c t le (lawful ActivateActivateOther d)
stays_lawful s k h c t lawful le ActivatePrecharge = λ d. later (At Activate c.bank) s.ras.0 h c t le (lawful ActivatePrecharge d)
stays_lawful s k h c t lawful le ActivateColumn = λ d. later (At Activate c.bank) s.rcd.0 h c t le (lawful ActivateColumn d)
stays_lawful s k h c t lawful le PrechargeActivate = λ d. later (At Precharge c.bank) s.rp.0 h c t le (lawful PrechargeActivate d)
stays_lawful s k h c t lawful le ColumnColumn = λ d. later (Of c.kind) s.ccd.0 h c t le (lawful ColumnColumn d)
stays_lawful s k h c t lawful le ReadWrite = λ d. later (Of Read) (read_to_write s) h c t le (lawful ReadWrite d)
stays_lawful s k h c t lawful le WriteRead = λ d. later (Of Write) (write_to_read s) h c t le (lawful WriteRead d)
stays_lawful s k h c t lawful le ReadPrecharge = λ d. later (At Read c.bank) s.rtp.0 h c t le (lawful ReadPrecharge d)
stays_lawful s k h c t lawful le WritePrecharge = λ d. later (At Write c.bank) (write_to_precharge s) h c t le (lawful WritePrecharge d)
stays_lawful s k h c t lawful le FourActivates = λ d old a₁ a₂ a₃ a₄ e. omega (arith, lawful FourActivates d old a₁ a₂ a₃ a₄ e)

-- each gap is within the stretch of the kind that it binds
three : (a b c : ℕ) → (a ≤ max (max a b) c) × (b ≤ max (max a b) c) × (c ≤ max (max a b) c)
three a b c = (omega arith, omega arith, omega arith)

four : (a b c d : ℕ) → (a ≤ max (max (max a b) c) d) × (b ≤ max (max (max a b) c) d) × (c ≤ max (max (max a b) c) d) × (d ≤ max (max (max a b) c) d)
four a b c d = (omega arith, omega arith, omega arith, omega arith)

-- every command lies before t, so a gap within a stretch has passed one cycle before t and the stretch
passed : (P : Command → Type 0) (h : List Command) (c : Command) (t gap stretch : ℕ) → AllBefore t h → gap ≤ stretch → t + stretch ≤ c.cycle + 1 → Apart P gap h c
passed P h c t gap stretch all within reached = every_map {P = λ a. a.cycle < t} (λ a lt p. omega arith) h all

one_such : (P : Command → Type 0) (b : Bool) (x : Command) (xs : List Command) → P x → Every P xs → Every P (cond b (x ∷ xs) xs)
one_such P true x xs p e = (p, e)
one_such P false x xs p e = e

activates_such : (P : Command → Type 0) (h : List Command) → Every P h → Every P (activates h)
activates_such P [] e = tt
activates_such P (x ∷ xs) e = one_such P (same_kind x.kind Activate) x (activates xs) e.0 (activates_such P xs e.1)

-- what a command of each kind needs: its bank in the right state, and its stretch passed since t
pub record NeedsOf (s : Sheet) (h : List Command) (c : Command) (t : ℕ) : Type 0 where
  pub to_open : c.kind ≡ Activate → (open_row c.bank h ≡ None) × (t + to_activate s ≤ c.cycle + 1)
  pub to_close : c.kind ≡ Precharge → (open_row c.bank h ≢ None) × (t + to_precharge s ≤ c.cycle + 1)
  pub to_move : Column c.kind → (open_row c.bank h ≡ Some c.row) × (t + to_column s ≤ c.cycle + 1)

lawful_after : (s : Sheet) (k : Chip) (h : List Command) (c : Command) (t : ℕ) → Inside k c → AllBefore t h → t ≤ c.cycle → NeedsOf s h c t → Lawful s k h c
lawful_after s k h c t inside all le n CyclesRise = every_map {P = λ a. a.cycle < t} (λ a lt. omega arith) h all
lawful_after s k h c t inside all le n InsideChip = inside
lawful_after s k h c t inside all le n ActivateClosed = λ d. (n.to_open d).0
lawful_after s k h c t inside all le n PrechargeOpen = λ d. (n.to_close d).0
lawful_after s k h c t inside all le n ColumnOpen = λ d. (n.to_move d).0
lawful_after s k h c t inside all le n ActivateActivateSame = λ d. passed (At Activate c.bank) h c t s.rc.0 (to_activate s) all (four s.rp.0 s.rc.0 s.rrd.0 s.faw.0).1 (n.to_open d).1
lawful_after s k h c t inside all le n ActivateActivateOther = λ d. passed (Elsewhere Activate c.bank) h c t s.rrd.0 (to_activate s) all (four s.rp.0 s.rc.0 s.rrd.0 s.faw.0).2 (n.to_open d).1
lawful_after s k h c t inside all le n ActivatePrecharge = λ d. passed (At Activate c.bank) h c t s.ras.0 (to_precharge s) all (three s.ras.0 s.rtp.0 (write_to_precharge s)).0 (n.to_close d).1
lawful_after s k h c t inside all le n ActivateColumn = λ d. passed (At Activate c.bank) h c t s.rcd.0 (to_column s) all (four s.rcd.0 s.ccd.0 (read_to_write s) (write_to_read s)).0 (n.to_move d).1
lawful_after s k h c t inside all le n PrechargeActivate = λ d. passed (At Precharge c.bank) h c t s.rp.0 (to_activate s) all (four s.rp.0 s.rc.0 s.rrd.0 s.faw.0).0 (n.to_open d).1
lawful_after s k h c t inside all le n ColumnColumn = λ d. passed (Of c.kind) h c t s.ccd.0 (to_column s) all (four s.rcd.0 s.ccd.0 (read_to_write s) (write_to_read s)).1 (n.to_move d).1
lawful_after s k h c t inside all le n ReadWrite = λ d. passed (Of Read) h c t (read_to_write s) (to_column s) all (four s.rcd.0 s.ccd.0 (read_to_write s) (write_to_read s)).2 (n.to_move (subst Column (sym d) tt)).1
lawful_after s k h c t inside all le n WriteRead = λ d. passed (Of Write) h c t (write_to_read s) (to_column s) all (four s.rcd.0 s.ccd.0 (read_to_write s) (write_to_read s)).3 (n.to_move (subst Column (sym d) tt)).1
lawful_after s k h c t inside all le n ReadPrecharge = λ d. passed (At Read c.bank) h c t s.rtp.0 (to_precharge s) all (three s.ras.0 s.rtp.0 (write_to_precharge s)).1 (n.to_close d).1
lawful_after s k h c t inside all le n WritePrecharge = λ d. passed (At Write c.bank) h c t (write_to_precharge s) (to_precharge s) all (three s.ras.0 s.rtp.0 (write_to_precharge s)).2 (n.to_close d).1
lawful_after s k h c t inside all le n FourActivates = λ d old a₁ a₂ a₃ a₄ e.
    let lt : a₁.cycle < t = every_at (λ a. a.cycle < t) old a₁ (a₂ ∷ a₃ ∷ a₄ ∷ []) (subst (λ (xs : List Command). AllBefore t xs) e (activates_such (λ a. a.cycle < t) h all)) in
    let reached = (n.to_open d).1 in
    let within = (four s.rp.0 s.rc.0 s.rrd.0 s.faw.0).3 in
    omega arith

pub precharge_in_time : PrechargeInTime
precharge_in_time s k h c t kind inside is_open all reached =
    lawful_after s k h c t inside all (omega (arith, s.ras_in, (three s.ras.0 s.rtp.0 (write_to_precharge s)).0))
    (record {
      to_open = λ d. cc;
      to_close = λ d. (is_open, reached);
      to_move = λ d. absurd (subst Column kind d);
    })

pub activate_in_time : ActivateInTime
activate_in_time s k h c t kind inside closed all reached =
    lawful_after s k h c t inside all (omega (arith, s.rp_in, (four s.rp.0 s.rc.0 s.rrd.0 s.faw.0).0))
    (record {
      to_open = λ d. (closed, reached);
      to_close = λ d. cc;
      to_move = λ d. absurd (subst Column kind d);
    })

pub column_in_time : ColumnInTime
column_in_time s k h c t column inside is_open all reached =
    lawful_after s k h c t inside all (omega (arith, s.rcd_in, (four s.rcd.0 s.ccd.0 (read_to_write s) (write_to_read s)).0))
    (record {
      to_open = λ d. absurd (subst Column d column);
      to_close = λ d. absurd (subst Column d column);
      to_move = λ d. (is_open, reached);
    })
