-- What a request asks for, where it is a proper one.
use Rattle.std.specs.Prelude.{Bool, cond, ◌||◌, None, Option, nat_le}
use Rattle.sheet.specs.declared.geometry.Chip.{Chip}
use Rattle.rulebook.specs.declared.command.Kind.{Kind}
use Rattle.policy.specs.declared.entry.Request.{Request}
use Rattle.machine.specs.Machine.{asked_kind, improper}

-- The address of a request lies outside the chip.
abbrev pub outside : Chip → Request → Bool
outside k q = nat_le k.banks q.bank || (nat_le k.rows q.row || nat_le k.columns q.column)

-- What a proper request asks for; none where it is improper.
abbrev pub proper_kind : Chip → Request → Option Kind
proper_kind k q = cond (improper k q) None (asked_kind q.kind)
