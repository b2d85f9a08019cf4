-- The kinds of command by number.
use Rattle.std.specs.Prelude.{◌≡◌, ℕ, ◌<◌, Bool, cond, Some, None, Option, Result, MatchResult, ◌==◌}
use Rattle.rulebook.specs.declared.command.Kind.{Kind}
use Rattle.rulebook.specs.declared.command.UnknownKind.{UnknownKind}
use Rattle.rulebook.specs.declared.command.Kind.TheVariants.{Idle, Activate, Precharge, Read, Write}

-- the number that stands for a kind in a trace
abbrev pub kind_number : Kind → ℕ
kind_number Idle = 0
kind_number Activate = 1
kind_number Precharge = 2
kind_number Read = 3
kind_number Write = 4

-- the kind that a number stands for, if there is one
abbrev pub kind_of : ℕ → Option Kind
kind_of n =
    cond (n == 0) (Some Idle) (
    cond (n == 1) (Some Activate) (
    cond (n == 2) (Some Precharge) (
    cond (n == 3) (Some Read) (
    cond (n == 4) (Some Write) None))))

-- the kind that a number stands for, or an error with the number, for which no kind stands
abbrev pub Decodes : ℕ → Result Kind UnknownKind → Type 0
Decodes n r =
    MatchResult r
    (λ d. (kind_of n ≡ Some d) × (kind_number d ≡ n))
    (λ e. (kind_of n ≡ None) × (4 < n) × (e.0 ≡ n))

-- two kinds are the same
abbrev pub same_kind : Kind → Kind → Bool
same_kind d e = kind_number d == kind_number e
