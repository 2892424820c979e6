-- `print::Printer::put_line` meets its contract. Assumes nothing.
use Rattle.print.proofs.Printed.{puts-line}
use Rattle.print.proofs.Printer.put_line.Goals as goal

pub returns : goal.returns
returns c = puts-line c.put.ensures c.put_number.ensures c.put-2.ensures c.put_number-2.ensures c.put-3.ensures
