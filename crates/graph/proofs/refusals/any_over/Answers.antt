-- `graph::any_over` meets its contract: the chain finds a byte over the bound where there is one.
-- Assumes nothing.
use Rattle.std.proofs.Common.{rules, tests, ◌∙◌, nat_lt}
use Rattle.std.proofs.lemmas.Iterator.{YieldsList-from_slice}
use Rattle.std.proofs.lemmas.Iterator.Search.{any_from_yields_List}
use Rattle.graph.proofs.Chains.{list_any-over}
use Rattle.graph.proofs.refusals.any_over.Goals as goal

pub returns : goal.returns
returns c =
    any_from_yields_List (λ b. nat_lt c.args.most b) _ _ _ c.any.ensures.ran (YieldsList-from_slice c.args.bytes.now cc) (λ x b q k. search (rules, tests))
    ∙ list_any-over _ _
