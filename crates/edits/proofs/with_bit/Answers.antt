-- `edits::with_bit` meets its contract.
-- Assumes nothing.
use native.Mathlib.Omega.{arith}
use Rattle.theory.proofs.Basics.Bits.{bit_set, bit_cleared}
use Rattle.edits.proofs.with_bit.Goals as goal

pub returns-then-joins : goal.returns-then-joins
returns-then-joins c = rw c.if-joins.true (bit_set c.args.x c.args.k c.requires)

pub returns-else-joins : goal.returns-else-joins
returns-else-joins c = let fits = c.ranges.x.fits in rw c.if-joins.false (bit_cleared c.args.x c.args.k c.requires (omega arith))
