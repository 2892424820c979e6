-- `pack::ByteTable::has_loop` meets its contract: the chain asks of each vertex whether it is joined to itself.
-- Assumes nothing.
use Rattle.std.proofs.Common.{rules, tests, refl, ◌∙◌, arith}
use Rattle.std.proofs.lemmas.Iterator.{YieldsList-from_range}
use Rattle.std.proofs.lemmas.Iterator.Search.{any_from_yields_List}
use Rattle.model.specs.Calls.{looped}
use Rattle.pack.specs.Held.{graph_in}
use Rattle.graph.proofs.Chains.{list_any-below}
use Rattle.pack.proofs.bytes.ByteTable.has_loop.Goals as goal

pub returns : goal.returns
unfolding looped
returns c =
    let t = c.args.self.now in
    any_from_yields_List (λ u. (graph_in t).joined u u) _ _ _ c.any.ensures.ran (YieldsList-from_range 0 t.n _ refl (omega arith)) (λ x b q k. search (rules, tests))
    ∙ list_any-below _ _
