-- `isolation::Settings::criterion` meets its contract: the factor fits.
-- Assumes nothing.
use Rattle.std.proofs.Common.{arith}
use Rattle.isolation.specs.Numbers.{FactorFits}
use Rattle.isolation.proofs.Settings.criterion.Goals as goal

pub invariant_of-result : goal.invariant_of-result
unfolding FactorFits
invariant_of-result c = record { fits = omega (arith, c.requires) }
