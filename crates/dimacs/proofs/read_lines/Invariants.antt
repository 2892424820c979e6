-- `dimacs::read_lines` meets its contract: what it leaves is the reply of `read_text`, once what a refused text left in the table is cleared.
-- The loop's invariant is `SoFar`: what is left of the text decides the rest. Assumes nothing.
use Prim.Native.Nat.{◌+◌, ◌-◌}
use mathlib.Core.Path.{◌≡◌}
use lib.ListN.{length}
use Rattle.dimacs.proofs.LineByLine.{SoFar}
use Rattle.dimacs.proofs.read_lines.Given as goal

abbrev pub invariant-loop-at : goal.invariant-loop-at
invariant-loop-at l = (l.reader.table.ghost_name ≡ l.initial.reader.table.ghost_name) × SoFar l.text l.initial.reader.table.now l.reader l.at l.line

abbrev pub decreases-loop-at : goal.decreases-loop-at
decreases-loop-at l = length l.text + 1 - l.at
