-- `print::Printer::put_number` meets its contract. Assumes nothing.
use mathlib.Core.Path.{◌≡◌, sym, ap, ◌∙◌}
use native.Mathlib.Omega.{arith}
use lib.ListN.{length}
use Rattle.model.specs.Program.{numeral}
use Rattle.print.proofs.Puts.{puts_as}
use Rattle.print.proofs.Numeral.{numeral_decimal}
use Rattle.print.proofs.Printer.put_number.Goals as goal
use Rattle.print.proofs.Printer.put_number.Goals.{After-as_bytes}

-- what is put is the number's digits
put_digits : (c : After-as_bytes) → c.as_bytes.result.now ≡ numeral c.args.k
put_digits c = c.as_bytes.ensures.value ∙ c.format.ensures.text ∙ sym (numeral_decimal c.args.k (omega arith))

pub put-requires : goal.put-requires
put-requires c = omega (arith, ap length (put_digits c))

pub returns : goal.returns
returns c = puts_as (put_digits (goal.at.returns c).After-as_bytes) c.put.ensures
