-- `dimacs::read` meets its contract: where a text is refused, the first N × N bytes of the table become 0. Assumes nothing.
use Rattle.std.proofs.Common.{rules}
use Rattle.dimacs.proofs.LineByLine.{refused_reply}
use Rattle.dimacs.proofs.read.Goals as goal

pub returns-then-is_err : goal.returns-then-is_err
returns-then-is_err c = refused_reply _ _ _ _ c.read_lines-read.ensures.lines_read c.if-is_err.ensures.value (search rules)
