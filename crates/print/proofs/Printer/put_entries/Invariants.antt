-- `print::Printer::put_entries` meets its contract. Assumes nothing.
use Rattle.print.proofs.Printed.{SoFar}
use Rattle.print.proofs.Printer.put_entries.Given as goal

abbrev pub invariant-loop-entry : goal.invariant-loop-entry
invariant-loop-entry l = SoFar l.entries l.initial.self l.self l.to_come l.entry-index
