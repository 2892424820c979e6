-- `state::State::finished` meets its contract: with all ranks decided the position is finished where nothing is taken.
-- Assumes nothing.
use mathlib.Core.Path.{sym, ◌∙◌}
use native.Mathlib.Omega.{arith}
use Rattle.std.proofs.lemmas.Bool.{lt-leb}
use Rattle.state.proofs.StandsFor.{finished_open, finished-decided}
use Rattle.state.proofs.State.finished.Goals as goal

pub returns-then-n-self : goal.returns-then-n-self
returns-then-n-self c = λ G p w e St. sym (finished-decided St (omega arith))

pub returns-else-n-self : goal.returns-else-n-self
returns-else-n-self c = λ G p w e St. lt-leb _ _ (omega arith) ∙ sym (finished_open St (omega arith))
