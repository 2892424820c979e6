-- `pack::ByteTable::has_one_way` meets its contract: the chain asks of each row up to the diagonal.
-- Assumes nothing.
use Rattle.std.proofs.Common.{rules, tests, refl, ◌∙◌, arith}
use Rattle.std.proofs.lemmas.Iterator.{YieldsList-from_range}
use Rattle.std.proofs.lemmas.Iterator.Search.{any_from_yields_List}
use Rattle.model.specs.Below.{any}
use Rattle.pack.specs.Bytes.{differ}
use Rattle.pack.specs.Held.{graph_in}
use Rattle.graph.proofs.Chains.{list_any-below}
use Rattle.pack.proofs.Faults.{one_way-below}
use Rattle.pack.proofs.bytes.ByteTable.has_one_way.Goals as goal

pub returns : goal.returns
returns c =
    let t = c.args.self.now in
    any_from_yields_List (λ u. any u (differ (graph_in t) u)) _ _ _ c.any.ensures.ran (YieldsList-from_range 0 t.n _ refl (omega arith)) (λ x b q k. search (rules, tests))
    ∙ list_any-below _ _
    ∙ one_way-below (graph_in t)
