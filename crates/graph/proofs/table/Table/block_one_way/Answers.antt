-- `graph::Table::block_one_way` meets its contract: the chain compares the numbers of the transposed block with those of the block across the diagonal.
-- Assumes nothing.
use Rattle.std.proofs.Common.{rules, tests, ◌∙◌, ◌+◌, ◌*◌, not, eqb, subst}
use Rattle.std.proofs.lemmas.Iterator.{YieldsList-from_slice}
use Rattle.std.proofs.lemmas.Iterator.Consumers.{YieldsList-from_enumerate}
use Rattle.std.proofs.lemmas.Iterator.Search.{any_from_yields_List}
use Rattle.model.specs.Graph.{packed_number}
use Rattle.graph.specs.Blocks.{Transposed}
use Rattle.graph.specs.Held.{graph_in}
use Rattle.graph.proofs.Chains.{list_any-indexed}
use Rattle.graph.proofs.BlockPairs.{block_beside}
use Rattle.graph.proofs.table.Table.block_one_way.Goals as goal

pub returns : goal.returns
returns c =
    let G = graph_in c.args.self.now in
    let block = c.transpose.new.block in
    let held = c.load_block.ensures in
    let turned = c.transpose.ensures in
    any_from_yields_List (λ e. not (eqb e.1 (packed_number G (64 * c.args.j + e.0) c.args.i))) _ _ _ c.any.ensures.ran
    (YieldsList-from_enumerate (YieldsList-from_slice block cc) cc) (λ x b q k. search (rules, tests))
    ∙ list_any-indexed (λ r x. not (eqb x (packed_number G (64 * c.args.j + r) c.args.i))) block
    ∙ block_beside G c.args.i c.args.j block (subst (λ l. Transposed l block) held turned)
