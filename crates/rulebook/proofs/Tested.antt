-- Each test of the record tells of its rule, after a history that it summarises and that obeys, once the smaller rules hold.
use Rattle.std.proofs.Common.{◌≡◌, ℕ, ◌+◌, ◌<◌, ◌≤◌, Bool, ◌&&◌, List, reverse, Option, sym, refl, ap, subst, arith, lit<}
use Rattle.sheet.specs.declared.accepted.Sheet.{Sheet}
use Rattle.sheet.specs.declared.geometry.Chip.{Chip}
use Rattle.sheet.specs.Spans.{read_to_write, write_to_read, write_to_precharge}
use Rattle.rulebook.specs.declared.command.Command.{Command}
use Rattle.rulebook.specs.declared.command.Kind.{Kind}
use Rattle.rulebook.specs.declared.command.Kind.TheVariants.{Idle, Activate, Precharge, Read, Write}
use Rattle.rulebook.specs.declared.rule.Rule.{Rule}
use Rattle.rulebook.specs.declared.rule.Rule.TheVariants.{CyclesRise, InsideChip, ActivateClosed, PrechargeOpen, ColumnOpen, ActivateActivateSame, ActivateActivateOther, ActivatePrecharge, ActivateColumn, PrechargeActivate, ColumnColumn, ReadWrite, WriteRead, ReadPrecharge, WritePrecharge, FourActivates}
use Rattle.rulebook.specs.declared.bank.Recent.{Recent}
use Rattle.rulebook.specs.declared.book.Book.{Book}
use Rattle.rulebook.specs.Kinds.{same_kind}
use Rattle.rulebook.specs.Book.{Every, Of, At, Column, activates, Holds, Obeys, rule_number}
use Rattle.rulebook.specs.Record.{bank_of}
use Rattle.rulebook.specs.Answer.{latest_column, too_soon, is_column, breaks}
use Rattle.rulebook.specs.Summary.{Latest, BankSummarises, first_four, Summarises}
use Rattle.rulebook.proofs.Lists.{every_map}
use Rattle.rulebook.proofs.Told.{Told, told_map, told_when, told_gap, told_closed, told_open, told_open_at, told_sizes, asks_kind, asks_column}
use Rattle.rulebook.proofs.Elsewhere.{told_other}
use Rattle.rulebook.proofs.Newest.{newest_is}
use Rattle.rulebook.proofs.Four.{FourApart, told_four}

-- a rule for one kind, and for both column commands
told_kind : (d e : Kind) (b : Bool) (P : Type 0) → Told b P → Told (same_kind d e && b) (d ≡ e → P)
told_kind d e b P t = told_when (same_kind d e) b P (asks_kind d e) (λ _. t)

told_column : (d : Kind) (b : Bool) (P : Type 0) → (Column d → Told b P) → Told (is_column d && b) (Column d → P)
told_column d b P t = told_when (is_column d) b P (asks_column d) t

-- cycles rise: a gap of one after every command
told_rises : (h : List Command) (o : Option ℕ) (t : ℕ) → Latest (λ a. Unit {0}) h o → Told (too_soon o 1 t) (Every (λ a. a.cycle < t) h)
told_rises h o t l =
    told_map (too_soon o 1 t)
    (λ all. every_map {P = λ a. Unit {0} → a.cycle + 1 ≤ t} (λ a f. omega (arith, f tt)) h all)
    (λ all. every_map {P = λ a. a.cycle < t} (λ a lt u. omega arith) h all)
    (told_gap (λ a. Unit {0}) h o 1 t l)

-- the latest column command of a kind
latest_of : (h : List Command) (b : Book) (d : Kind) → Column d → Summarises h b → Latest (Of d) h (latest_column b d)
latest_of h b Idle no_column sum = absurd no_column
latest_of h b Activate no_column sum = absurd no_column
latest_of h b Precharge no_column sum = absurd no_column
latest_of h b Read column sum = sum.read_is
latest_of h b Write column sum = sum.write_is

-- a command inside the chip goes to one of the sixteen banks
own_bank : (s : Sheet) (k : Chip) (h : List Command) (b : Book) (c : Command) → Summarises h b → Holds s k InsideChip h c → BankSummarises h c.bank (bank_of b c)
own_bank s k h b c sum inside = sum.banks_are c.bank (omega (arith, inside.0, k.banks_in))

-- the fourth newest activate
told_fourth : (gap t : ℕ) (acts : List Command) (n : Recent) → n ≡ first_four (reverse acts) → Told (too_soon n.fourth gap t) (FourApart gap t acts)
told_fourth gap t acts n e =
    subst (λ (o : Option ℕ). Told (too_soon o gap t) (FourApart gap t acts)) (sym (ap (λ (m : Recent). m.fourth) e)) (told_four gap t acts (reverse acts) refl)

-- the newest activate
newest_known : (s : Sheet) (k : Chip) (h : List Command) (b : Book) → Summarises h b → Obeys s k h → Latest (Of Activate) h b.recent.newest
newest_known s k h b sum obeys =
    subst (λ (o : Option ℕ). Latest (Of Activate) h o) (sym (ap (λ (m : Recent). m.newest) sum.recent_is)) (newest_is s k h obeys)

-- one line a rule
pub told_rule : (s : Sheet) (k : Chip) (h : List Command) (b : Book) (c : Command) → Summarises h b → Obeys s k h → (r : Rule) →
    ((q : Rule) → rule_number q < rule_number r → Holds s k q h c) → Told (breaks s k b c r) (Holds s k r h c)
told_rule s k h b c sum obeys CyclesRise before = told_rises h b.latest c.cycle sum.latest_is
told_rule s k h b c sum obeys InsideChip before = told_sizes k.banks k.rows k.columns c.bank c.row c.column
told_rule s k h b c sum obeys ActivateClosed before = told_kind c.kind Activate _ _ (told_closed _ _ (own_bank s k h b c sum (before InsideChip (lit< tt))).open_is)
told_rule s k h b c sum obeys PrechargeOpen before = told_kind c.kind Precharge _ _ (told_open _ _ (own_bank s k h b c sum (before InsideChip (lit< tt))).open_is)
told_rule s k h b c sum obeys ColumnOpen before = told_column c.kind _ _ (λ _. told_open_at _ _ c.row (own_bank s k h b c sum (before InsideChip (lit< tt))).open_is)
told_rule s k h b c sum obeys ActivateActivateSame before = told_kind c.kind Activate _ _ (told_gap (At Activate c.bank) h _ s.rc.0 c.cycle (own_bank s k h b c sum (before InsideChip (lit< tt))).activate_is)
told_rule s k h b c sum obeys ActivateActivateOther before = told_kind c.kind Activate _ _ (told_other s k h c.bank c.cycle _ _ obeys (before CyclesRise (lit< tt)) (newest_known s k h b sum obeys) (own_bank s k h b c sum (before InsideChip (lit< tt))).activate_is)
told_rule s k h b c sum obeys ActivatePrecharge before = told_kind c.kind Precharge _ _ (told_gap (At Activate c.bank) h _ s.ras.0 c.cycle (own_bank s k h b c sum (before InsideChip (lit< tt))).activate_is)
told_rule s k h b c sum obeys ActivateColumn before = told_column c.kind _ _ (λ _. told_gap (At Activate c.bank) h _ s.rcd.0 c.cycle (own_bank s k h b c sum (before InsideChip (lit< tt))).activate_is)
told_rule s k h b c sum obeys PrechargeActivate before = told_kind c.kind Activate _ _ (told_gap (At Precharge c.bank) h _ s.rp.0 c.cycle (own_bank s k h b c sum (before InsideChip (lit< tt))).precharge_is)
told_rule s k h b c sum obeys ColumnColumn before = told_column c.kind _ _ (λ col. told_gap (Of c.kind) h _ s.ccd.0 c.cycle (latest_of h b c.kind col sum))
told_rule s k h b c sum obeys ReadWrite before = told_kind c.kind Write _ _ (told_gap (Of Read) h _ (read_to_write s) c.cycle sum.read_is)
told_rule s k h b c sum obeys WriteRead before = told_kind c.kind Read _ _ (told_gap (Of Write) h _ (write_to_read s) c.cycle sum.write_is)
told_rule s k h b c sum obeys ReadPrecharge before = told_kind c.kind Precharge _ _ (told_gap (At Read c.bank) h _ s.rtp.0 c.cycle (own_bank s k h b c sum (before InsideChip (lit< tt))).read_is)
told_rule s k h b c sum obeys WritePrecharge before = told_kind c.kind Precharge _ _ (told_gap (At Write c.bank) h _ (write_to_precharge s) c.cycle (own_bank s k h b c sum (before InsideChip (lit< tt))).write_is)
told_rule s k h b c sum obeys FourActivates before = told_kind c.kind Activate _ _ (told_fourth s.faw.0 c.cycle (activates h) b.recent sum.recent_is)
