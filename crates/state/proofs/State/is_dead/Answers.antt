-- `state::State::is_dead` meets its contract: apart, or something is taken and c or more of the pivot's neighbours are left.
-- Assumes nothing.
use mathlib.Core.Path.{sym, ap, ◌∙◌}
use mathlib.Core.Bool.{not}
use native.Mathlib.Omega.{arith}
use Rattle.isolation.specs.Numbers.{settings_in}
use Rattle.state.proofs.StandsFor.{dead-apart, untaken_live, dead_by_left}
use Rattle.state.proofs.State.is_dead.Goals as goal

pub returns-then-self : goal.returns-then-self
returns-then-self c = λ G p w St. sym (dead-apart St (settings_in c.args.q) c.if-self.true)

pub returns-then-self-eq0 : goal.returns-then-self-eq0
returns-then-self-eq0 c = λ G p w St. sym (untaken_live St (settings_in c.args.q) c.if-self-eq0.true)

pub returns : goal.returns
returns c = λ G p w St. ap not c.within.ensures ∙ sym (dead_by_left St (settings_in c.args.q) (omega arith) c.if-self.false)
