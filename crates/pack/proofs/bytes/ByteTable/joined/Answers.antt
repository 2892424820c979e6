-- `pack::ByteTable::joined` meets its contract: the graph of the table is read off it.
-- Assumes nothing.
use mathlib.Core.Path.{sym}
use Rattle.theory.proofs.Graph.Table.{joined_at}
use Rattle.pack.proofs.bytes.ByteTable.joined.Goals as goal

pub returns : goal.returns
returns c = sym (joined_at _ _ _ c.requires.0 _ c.requires.1)
