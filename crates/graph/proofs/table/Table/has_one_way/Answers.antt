-- `graph::Table::has_one_way` meets its contract: the chain asks of each row of blocks.
-- Assumes nothing.
use Rattle.std.proofs.Common.{rules, tests, refl, ◌∙◌, ◌+◌, arith}
use Rattle.std.proofs.lemmas.Iterator.{YieldsList-from_range}
use Rattle.std.proofs.lemmas.Iterator.Search.{any_from_yields_List}
use Rattle.model.specs.Below.{any}
use Rattle.graph.specs.Blocks.{block_one_way}
use Rattle.graph.specs.Held.{graph_in}
use Rattle.graph.proofs.Chains.{list_any-below}
use Rattle.graph.proofs.BlockPairs.{one_way-blocks}
use Rattle.graph.proofs.table.Table.has_one_way.Goals as goal

pub returns : goal.returns
returns c =
    let t = c.args.self.now in
    any_from_yields_List (λ i. any (i + 1) (block_one_way (graph_in t) i)) _ _ _ c.any.ensures.ran
    (YieldsList-from_range 0 c.args.self.now.width c.args.self.now.width refl (omega arith)) (λ x b q k. search (rules, tests))
    ∙ list_any-below _ c.args.self.now.width
    ∙ rw c.args.self.now.wide (one_way-blocks t.n t.numbers.now)
