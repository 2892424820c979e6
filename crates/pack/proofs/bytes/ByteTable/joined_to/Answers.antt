-- `pack::ByteTable::joined_to` meets its contract: what is not a vertex is joined to nothing.
-- Assumes nothing.
use Rattle.std.proofs.Common.{sym, ◌∙◌}
use borrow.Author.Tests.{le-ltb}
use Rattle.model.specs.Graph.{byte_joined}
use Rattle.theory.proofs.Graph.Table.{apart_past}
use Rattle.pack.proofs.bytes.ByteTable.joined_to.Goals as goal

pub returns-else-v-self : goal.returns-else-v-self
returns-else-v-self c =
    let t = c.args.self.now in
    le-ltb c.args.v t.n c.if-v-self.false ∙ sym (apart_past t.n (byte_joined t.n t.bytes.now) c.args.u c.args.v c.if-v-self.false)
