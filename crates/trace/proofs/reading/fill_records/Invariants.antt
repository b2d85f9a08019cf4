use Rattle.std.proofs.Common.{◌≡◌, ◌++◌, map, take, drop}
use Rattle.std.specs.Iterator.Adapters.{enumerate_count}
use Rattle.trace.specs.Text.{lines_of, command_at}
use Rattle.trace.proofs.TextLaws.{AtLine}
use Rattle.trace.proofs.reading.fill_records.Given as goal

abbrev pub invariant-loop-k : goal.invariant-loop-k
invariant-loop-k l =
    let k = enumerate_count l.k-iterator in
    AtLine l.text l.k-iterator × (l.records ≡ map command_at (take k (lines_of l.text)) ++ drop k l.initial.records)
