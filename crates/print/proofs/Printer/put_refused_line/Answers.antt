-- `print::Printer::put_refused_line` meets its contract. Assumes nothing.
use native.Mathlib.Omega.{arith}
use Rattle.std.proofs.Common.{rules}
use Rattle.model.specs.Program.{refused_line}
use Rattle.print.proofs.Numeral.{ten_digits, twenty_digits}
use Rattle.print.proofs.Printer.put_refused_line.Goals as goal

pub put_line-requires : goal.put_line-requires
put_line-requires c = omega (arith, ten_digits c.args.number (omega arith), twenty_digits c.args.line (omega arith))

pub returns : goal.returns
unfolding refused_line
returns c = search rules
