-- The two cycles between which a gap is missing, at a line that breaks a gap rule.
use Rattle.std.specs.Prelude.{◌≡◌, ℕ, zero, suc, ◌+◌, ◌<◌, Bool, false, cond, not, ◌&&◌, List, Some, None, Option, ◌==◌, nat_lt, ◌++◌, codes, decimal}
use Rattle.sheet.specs.Spans.{read_to_write, write_to_read, write_to_precharge}
use Rattle.sheet.specs.Units.{cycles}
use Rattle.sheet.specs.declared.accepted.Sheet.{Sheet}
use Rattle.sheet.specs.declared.units.Cycles.{Cycles}
use Rattle.rulebook.specs.Book.{Of, At, Elsewhere}
use Rattle.rulebook.specs.Kinds.{same_kind}
use Rattle.rulebook.specs.declared.command.Command.{Command}
use Rattle.rulebook.specs.declared.command.Kind.{Kind}
use Rattle.rulebook.specs.declared.command.Kind.TheVariants.{Activate, Precharge, Read, Write}
use Rattle.rulebook.specs.declared.rule.Rule.{Rule}
use Rattle.rulebook.specs.declared.rule.Rule.TheVariants.{CyclesRise, InsideChip, ActivateClosed, PrechargeOpen, ColumnOpen, ActivateActivateSame, ActivateActivateOther, ActivatePrecharge, ActivateColumn, PrechargeActivate, ColumnColumn, ReadWrite, WriteRead, ReadPrecharge, WritePrecharge, FourActivates}
use Rattle.trace.specs.Fields.{and_then}
use Rattle.trace.specs.Line.{command_in}
use Rattle.trace.specs.Text.{line_at}
use Rattle.report.specs.declared.gaps.Near.{Near}

-- the gap that a rule asks for; none where it is no gap rule
abbrev pub gap_of : Sheet → Rule → Option Cycles
gap_of s CyclesRise = None
gap_of s InsideChip = None
gap_of s ActivateClosed = None
gap_of s PrechargeOpen = None
gap_of s ColumnOpen = None
gap_of s ActivateActivateSame = Some s.rc
gap_of s ActivateActivateOther = Some s.rrd
gap_of s ActivatePrecharge = Some s.ras
gap_of s ActivateColumn = Some s.rcd
gap_of s PrechargeActivate = Some s.rp
gap_of s ColumnColumn = Some s.ccd
gap_of s ReadWrite = Some (cycles (read_to_write s))
gap_of s WriteRead = Some (cycles (write_to_read s))
gap_of s ReadPrecharge = Some s.rtp
gap_of s WritePrecharge = Some (cycles (write_to_precharge s))
gap_of s FourActivates = Some s.faw

-- a command is of a kind
abbrev pub is_of : Kind → Command → Bool
is_of d a = same_kind a.kind d

-- a command is of a kind and goes to a bank
abbrev pub is_at : Kind → ℕ → Command → Bool
is_at d i a = same_kind a.kind d && a.bank == i

-- a command is of a kind and goes to another bank
abbrev pub is_elsewhere : Kind → ℕ → Command → Bool
is_elsewhere d i a = same_kind a.kind d && not (a.bank == i)

-- the sort of commands from which a rule counts its gap to a later command c
abbrev pub counts_from : Rule → Command → Command → Bool
counts_from CyclesRise c a = false
counts_from InsideChip c a = false
counts_from ActivateClosed c a = false
counts_from PrechargeOpen c a = false
counts_from ColumnOpen c a = false
counts_from ActivateActivateSame c a = is_at Activate c.bank a
counts_from ActivateActivateOther c a = is_elsewhere Activate c.bank a
counts_from ActivatePrecharge c a = is_at Activate c.bank a
counts_from ActivateColumn c a = is_at Activate c.bank a
counts_from PrechargeActivate c a = is_at Precharge c.bank a
counts_from ColumnColumn c a = is_of c.kind a
counts_from ReadWrite c a = is_of Read a
counts_from WriteRead c a = is_of Write a
counts_from ReadPrecharge c a = is_at Read c.bank a
counts_from WritePrecharge c a = is_at Write c.bank a
counts_from FourActivates c a = is_of Activate a

-- the same sort in the words of the rule book
abbrev pub From : Rule → Command → Command → Type 0
From CyclesRise c a = ⊥
From InsideChip c a = ⊥
From ActivateClosed c a = ⊥
From PrechargeOpen c a = ⊥
From ColumnOpen c a = ⊥
From ActivateActivateSame c a = At Activate c.bank a
From ActivateActivateOther c a = Elsewhere Activate c.bank a
From ActivatePrecharge c a = At Activate c.bank a
From ActivateColumn c a = At Activate c.bank a
From PrechargeActivate c a = At Precharge c.bank a
From ColumnColumn c a = Of c.kind a
From ReadWrite c a = Of Read a
From WriteRead c a = Of Write a
From ReadPrecharge c a = At Read c.bank a
From WritePrecharge c a = At Write c.bank a
From FourActivates c a = Of Activate a

-- how many of that sort a rule passes over, counted back from the later command: rule 16 counts from the fourth activate back
abbrev pub passed_over : Rule → ℕ
passed_over CyclesRise = 0
passed_over InsideChip = 0
passed_over ActivateClosed = 0
passed_over PrechargeOpen = 0
passed_over ColumnOpen = 0
passed_over ActivateActivateSame = 0
passed_over ActivateActivateOther = 0
passed_over ActivatePrecharge = 0
passed_over ActivateColumn = 0
passed_over PrechargeActivate = 0
passed_over ColumnColumn = 0
passed_over ReadWrite = 0
passed_over WriteRead = 0
passed_over ReadPrecharge = 0
passed_over WritePrecharge = 0
passed_over FourActivates = 3

-- the command of a line, if it is such
abbrev pub such_in : (Command → Bool) → List ℕ → Option Command
such_in such line = and_then (command_in line) (λ a. cond (such a) (Some a) None)

-- a command that is such is passed over or is the one; then the lines before it are looked at
abbrev pub step_back : Option Command → ℕ → (ℕ → Option Command) → Option Command
step_back None over before = before over
step_back (Some a) zero before = Some a
step_back (Some a) (suc over) before = before over

-- the latest command that is such on the first n lines of a text, after so many of them are passed over
unfoldable pub latest_such : (Command → Bool) → ℕ → List ℕ → ℕ → Option Command
latest_such such over text zero = None
latest_such such over text (suc n) = step_back (such_in such (line_at text n)) over (λ left. latest_such such left text n)

-- the command from which a rule counts its gap to the command c of a line
abbrev pub counted_from : Rule → Command → List ℕ → ℕ → Option Command
counted_from rule c text line = latest_such (counts_from rule c) (passed_over rule) text line

-- the two cycles and the gap, where the later comes before the gap has passed
abbrev pub pair_near : Cycles → Command → Command → Option Near
pair_near gap earlier later = cond (nat_lt later.cycle (earlier.cycle + gap.0)) (Some (record { earlier = earlier.cycle; later = later.cycle; needed = gap })) None

-- the gap that is missing at a line: that of the rule, from the command from which it counts to the line's own command
abbrev pub missing_gap : Sheet → List ℕ → ℕ → Rule → Option Near
missing_gap s text line rule =
    and_then (gap_of s rule) (λ gap.
    and_then (command_in (line_at text line)) (λ later.
    and_then (counted_from rule later text line) (λ earlier.
    pair_near gap earlier later)))

-- the rule's gap had not passed at a line since the command of an earlier line, which is of the sort from which the rule counts
pub record TooNear (s : Sheet) (text : List ℕ) (line : ℕ) (rule : Rule) (n : Near) : Type 0 where
  pub at : ℕ
  pub earlier : Command
  pub later : Command
  pub is_before : at < line
  pub earlier_is : command_in (line_at text at) ≡ Some earlier
  pub later_is : command_in (line_at text line) ≡ Some later
  pub counts : From rule later earlier
  pub cycles_are : (n.earlier ≡ earlier.cycle) × (n.later ≡ later.cycle)
  pub gap_is : gap_of s rule ≡ Some n.needed
  pub too_soon : n.later < n.earlier + n.needed.0

-- at a line that breaks a rule a gap is named that had not passed, and none only where the rule is no gap rule
abbrev pub Named : Sheet → List ℕ → ℕ → Rule → Option Near → Type 0
Named s text line rule None = gap_of s rule ≡ None
Named s text line rule (Some n) = TooNear s text line rule n

-- the two cycles and the gap as they are shown
abbrev pub gap_words : Near → List ℕ
gap_words n =
    codes " (cycle " ++ (decimal n.earlier
    ++ (codes ", then cycle " ++ (decimal n.later
    ++ (codes "; " ++ (decimal n.needed.0
    ++ codes " cycles needed)")))))
