-- `graph::Table::has_wrong_degree` meets its contract: the chain asks of each entry whether it is its vertex's degree.
-- Assumes nothing.
use Rattle.std.proofs.Common.{rules, tests, ◌∙◌, ap, not, eqb, get_or, ℕ}
use Rattle.std.proofs.lemmas.Iterator.{YieldsList-from_slice}
use Rattle.std.proofs.lemmas.Iterator.Consumers.{YieldsList-from_enumerate}
use Rattle.std.proofs.lemmas.Iterator.Search.{any_from_yields_List}
use Rattle.model.specs.Below.{any}
use Rattle.model.specs.Graph.{degree}
use Rattle.graph.specs.Held.{graph_in}
use Rattle.graph.proofs.Chains.{list_any-indexed}
use Rattle.graph.proofs.table.Table.has_wrong_degree.Goals as goal

pub returns : goal.returns
returns c =
    let t = c.args.self.now in
    let d = c.args.degrees.now in
    any_from_yields_List (λ e. not (eqb e.1 (degree (graph_in t) e.0))) _ _ _ c.any.ensures.ran (YieldsList-from_enumerate (YieldsList-from_slice d cc) cc) (λ x b q k. search (rules, tests))
    ∙ list_any-indexed (λ v k. not (eqb k (degree (graph_in t) v))) d
    ∙ ap (λ (n : ℕ). any n (λ v. not (eqb (get_or d v 0) (degree (graph_in t) v)))) c.requires
