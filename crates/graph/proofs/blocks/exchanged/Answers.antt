-- `graph::exchanged` meets its contract: the exclusive or exchanges the halves.
-- Assumes nothing.
use Rattle.graph.proofs.Transposition.{exchanged_halves}
use Rattle.graph.proofs.blocks.exchanged.Goals as goal

pub returns : goal.returns
returns c = exchanged_halves c.requires c.args.a c.args.b
