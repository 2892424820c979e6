-- `position::has_gap` meets its contract: from the lowest open rank on, the chain finds a decided one where there is one.
-- Assumes nothing.
use Rattle.std.proofs.Common.{ℕ, rules, tests, ◌∙◌, ap, not, length, drop, eqb, arith}
use Rattle.std.specs.List.{list_any}
use Rattle.std.proofs.lemmas.List.{take_rest}
use Rattle.std.proofs.lemmas.Iterator.{YieldsList-from_slice}
use Rattle.std.proofs.lemmas.Iterator.Search.{any_from_yields_List}
use Rattle.model.specs.Listing.{is}
use Rattle.theory.proofs.Walk.Scans.{least_le}
use Rattle.position.proofs.Scans.{after-open}
use Rattle.position.proofs.has_gap.Goals as goal

pub slice_bounds-iter-count : goal.slice_bounds-iter-count
slice_bounds-iter-count c = let p = c.args.position.now in omega (arith, c.decided_count-start.ensures, least_le (length p) (is 0 p))

pub slice_bounds-iter-start : goal.slice_bounds-iter-start
slice_bounds-iter-start c = let p = c.args.position.now in omega (arith, c.decided_count-start.ensures, least_le (length p) (is 0 p))

pub returns : goal.returns
returns c =
    let p = c.args.position.now in
    any_from_yields_List (λ b. not (eqb b 0)) _ _ _ c.any.ensures.ran (YieldsList-from_slice (drop c.decided_count-start.result p) (c.iter.ensures.rest ∙ take_rest p c.decided_count-start.result)) (λ x b q k. search (rules, tests))
    ∙ ap (λ (k : ℕ). list_any (λ b. not (eqb b 0)) (drop k p)) c.decided_count-start.ensures ∙ after-open p
