-- `larger::beaten` meets its contract: a return for each way to decide.
-- Assumes nothing.
use Rattle.std.proofs.Common.{refl}
use Rattle.larger.proofs.Maximal.{kind-test, notion-test, by_search, by_kind, by_min}
use Rattle.larger.proofs.beaten.Goals as goal
use Rattle.larger.proofs.beaten.Goals.{then-eq-via-then-eq, then-eq-via-else-eq+then-eq-2}

pub returns-then-eq : goal.returns-then-eq
returns-then-eq c =
    let kind = kind-test c.args.q.kind c.eq.ensures in
    elim c.then-eq.branch [
      | then-eq-via-then-eq w ↦ by_kind c.requires.parts c.requires.posed (kind.0 w.if-eq.true) refl
      | then-eq-via-else-eq+then-eq-2 w ↦ by_min c.requires.parts c.requires.posed ((notion-test c.args.q.notion w.eq-else-eq.ensures).0 w.if-eq-2.true) refl
    ]

pub returns : goal.returns
returns c =
    by_search c.requires.parts c.requires.posed ((kind-test c.args.q.kind c.eq.ensures).1 c.if-eq.false) ((notion-test c.args.q.notion c.eq-else-eq.ensures).1 c.if-eq-2.false)
    c.search_all.ensures
