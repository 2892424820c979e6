-- `position::decided_count` meets its contract: the chain finds the lowest open rank where there is one.
-- Assumes nothing.
use Rattle.std.proofs.Common.{rules, tests, ◌≡◌, ◌≢◌, ◌∙◌, sym, length}
use Rattle.std.proofs.lemmas.Iterator.{YieldsList-from_slice, IsFirst-from_position, index_from_first}
use Rattle.model.specs.Walk.{Position}
use Rattle.model.specs.Below.{least}
use Rattle.model.specs.Listing.{is}
use Rattle.position.proofs.Scans.{first-none, first-hit, first-miss}
use Rattle.position.proofs.decided_count.Goals as goal

pub returns : goal.returns
returns c =
    let p = c.args.position.now in
    let found =
    IsFirst-from_position _ _ c.position.result (λ b. b ≡ 0) (λ b. b ≢ 0) c.position.ensures.ran (YieldsList-from_slice p cc) (λ x q k. search (rules, tests))
    (λ x q k. search (rules, tests)) in
    c.unwrap_or.ensures ∙ sym (index_from_first (λ (q : Position). least (length q) (is 0 q)) (λ b. b ≡ 0) (λ b. b ≢ 0) first-none first-hit first-miss p c.position.result found)
