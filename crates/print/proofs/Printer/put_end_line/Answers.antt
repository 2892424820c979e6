-- `print::Printer::put_end_line` meets its contract. Assumes nothing.
use native.Mathlib.Omega.{arith}
use Rattle.std.proofs.Common.{rules}
use Rattle.model.specs.Program.{end_line}
use Rattle.print.proofs.Numeral.{ten_digits}
use Rattle.print.proofs.Printer.put_end_line.Goals as goal

pub put_line-requires : goal.put_line-requires
put_line-requires c = omega (arith, ten_digits c.args.groups (omega arith), ten_digits c.args.steps (omega arith))

pub returns : goal.returns
unfolding end_line
returns c = search rules
