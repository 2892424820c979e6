-- `qualify::numbers` meets its contract: it reads what stands at the first and the last taken vertex.
-- Assumes nothing.
use mathlib.Core.Path.{refl, ap, ◌∙◌}
use Rattle.model.specs.Graph.{degree}
use Rattle.ranks.specs.Held.{ranked_graph}
use Rattle.qualify.proofs.Verdicts.{same-tally}
use Rattle.qualify.proofs.numbers.Goals as goal

pub returns : goal.returns
returns c =
    let G = ranked_graph c.args.g.now in
    same-tally _ _ refl refl (c.degree.ensures.0 ∙ ap (degree G) c.from-first.ensures) (c.degree-2.ensures.0 ∙ ap (degree G) c.from-last.ensures)
