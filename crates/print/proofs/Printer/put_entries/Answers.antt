-- `print::Printer::put_entries` meets its contract. Assumes nothing.
use native.Mathlib.Omega.{arith}
use Rattle.print.proofs.Printed.{so_none, so_more, so_all}
use Rattle.print.proofs.Printer.put_entries.Goals as goal

pub loop-entry-init : goal.loop-entry-init
loop-entry-init c = so_none (omega arith)

pub loop-entry-preserved : goal.loop-entry-preserved
loop-entry-preserved c = so_more c.loop-entry.invariant (omega arith) c.put_entry-to_come.ensures

pub returns : goal.returns
returns c = so_all c.loop-entry.invariant (omega arith)
