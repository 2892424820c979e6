-- `isolation::Criterion::within` meets its contract.
-- Assumes nothing.
use Rattle.std.proofs.Common.{refl}
use Rattle.model.specs.Groups.{within}
use Rattle.isolation.proofs.criterion.Criterion.within.Goals as goal

pub returns : goal.returns
unfolding within
returns c = refl
