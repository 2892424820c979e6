-- `edits::move_degree` meets its contract: the degree is one more, or one less.
-- Assumes nothing.
use Rattle.model.specs.Edits.{moved, recount}
use Rattle.edits.proofs.move_degree.Goals as goal

pub returns-then-joins : goal.returns-then-joins
unfolding recount moved
returns-then-joins c = rw c.if-joins.true

pub returns-else-joins : goal.returns-else-joins
unfolding recount moved
returns-else-joins c = rw c.if-joins.false
