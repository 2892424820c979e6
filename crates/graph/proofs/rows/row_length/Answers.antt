-- `graph::row_length` meets its contract.
-- Assumes nothing.
use mathlib.Core.Path.{sym}
use Rattle.theory.proofs.Graph.Packed.{row_length-is}
use Rattle.graph.proofs.rows.row_length.Goals as goal

pub returns : goal.returns
returns c = sym (row_length-is c.args.n)
