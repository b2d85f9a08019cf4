-- The rules in words.
use Rattle.std.specs.Prelude.{ℕ, List, codes}
use Rattle.rulebook.specs.declared.rule.Rule.{Rule}
use Rattle.rulebook.specs.declared.rule.Rule.TheVariants.{CyclesRise, InsideChip, ActivateClosed, PrechargeOpen, ColumnOpen, ActivateActivateSame, ActivateActivateOther, ActivatePrecharge, ActivateColumn, PrechargeActivate, ColumnColumn, ReadWrite, WriteRead, ReadPrecharge, WritePrecharge, FourActivates}

-- what is wrong where a rule is broken
unfoldable pub sentence : Rule → List ℕ
sentence CyclesRise = codes "the cycle is not larger than that of the line before"
sentence InsideChip = codes "the bank, row or column is outside the chip"
sentence ActivateClosed = codes "an activate goes to a bank that is open"
sentence PrechargeOpen = codes "a precharge goes to a bank that is closed"
sentence ColumnOpen = codes "a read or write goes to a bank that is not open at its row"
sentence ActivateActivateSame = codes "an activate comes too soon after an activate of the same bank"
sentence ActivateActivateOther = codes "an activate comes too soon after an activate of another bank"
sentence ActivatePrecharge = codes "a precharge comes too soon after an activate of the same bank"
sentence ActivateColumn = codes "a read or write comes too soon after an activate of the same bank"
sentence PrechargeActivate = codes "an activate comes too soon after a precharge of the same bank"
sentence ColumnColumn = codes "a read comes too soon after a read, or a write after a write"
sentence ReadWrite = codes "a write comes too soon after a read"
sentence WriteRead = codes "a read comes too soon after a write"
sentence ReadPrecharge = codes "a precharge comes too soon after a read of the same bank"
sentence WritePrecharge = codes "a precharge comes too soon after a write of the same bank"
sentence FourActivates = codes "a fifth activate comes too soon after the first of the last five"
