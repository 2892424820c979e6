-- `page::walk_on` meets its contract: the state goes on to the position, and the rounds are those of a page from there.
-- Assumes nothing.
use Rattle.model.specs.Calls.{refuse_position}
use Rattle.theory.proofs.Basics.Refusals.{refuse_pass}
use Rattle.page.proofs.walk_on.Goals as goal

pub go_on-first-requires : goal.go_on-first-requires
unfolding refuse_position
go_on-first-requires c = (c.requires.stands, c.requires.enough, (refuse_pass 20 _ _ c.requires.passes).0)
