-- `graph::Table::blocks_one_way` meets its contract: the chain asks of each block.
-- Assumes nothing.
use Rattle.std.proofs.Common.{rules, tests, refl, ◌∙◌, arith}
use Rattle.std.proofs.lemmas.Iterator.{YieldsList-from_range}
use Rattle.std.proofs.lemmas.Iterator.Search.{any_from_yields_List}
use Rattle.graph.specs.Blocks.{block_one_way}
use Rattle.graph.specs.Held.{graph_in}
use Rattle.graph.proofs.Chains.{list_any-below}
use Rattle.graph.proofs.RowBounds.{row-short}
use Rattle.graph.proofs.table.Table.blocks_one_way.Goals as goal

pub overflow_add-i : goal.overflow_add-i
overflow_add-i c = let t = c.args.self.now in let s = row-short t.n t.fits.small in let h = c.requires in omega arith

pub returns : goal.returns
returns c =
    let t = c.args.self.now in
    any_from_yields_List (block_one_way (graph_in t) c.args.i) _ _ _ c.any.ensures.ran
    (YieldsList-from_range 0 _ _ refl (omega arith)) (λ x b q k. search (rules, tests))
    ∙ list_any-below _ _
