-- `graph::has_stray` meets its contract: the chain asks of each row.
-- Assumes nothing.
use Rattle.std.proofs.Common.{rules, tests, refl, ◌∙◌, ◌+◌, ◌*◌, ◌^◌, arith, not, ltb, get_or}
use Rattle.std.proofs.lemmas.Iterator.{YieldsList-from_range}
use Rattle.std.proofs.lemmas.Iterator.Search.{any_from_yields_List}
use Rattle.model.specs.Below.{any}
use Rattle.model.specs.Graph.{row_length}
use Rattle.model.specs.Calls.{bits_of, stray}
use Rattle.graph.proofs.Chains.{list_any-below}
use Rattle.graph.proofs.refusals.has_stray.Goals as goal

pub returns : goal.returns
unfolding stray
returns c =
    let n = c.args.n in
    let t = c.args.numbers.now in
    any_from_yields_List (λ u. any (row_length n) (λ j. not (ltb (get_or t (u * row_length n + j) 0) (2 ^ bits_of n j)))) _ _ _ c.any.ensures.ran
    (YieldsList-from_range 0 n _ refl (omega arith)) (λ x b q k. search (rules, tests))
    ∙ list_any-below _ _
