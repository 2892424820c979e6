-- `members::tally_of` meets its contract: the numbers are those of the members that were passed.
-- Assumes nothing.
use Rattle.std.proofs.Common.{◌≡◌, ◌*◌, ◌≤◌, length}
use Rattle.members.proofs.Listed.{TalliesFirst}
use Rattle.members.proofs.tally_of.Given as goal

abbrev pub invariant-loop-v : goal.invariant-loop-v
invariant-loop-v l = (l.y.members ≡ l.v-index) × (l.y.sum ≤ 65535 * l.v-index) × TalliesFirst (length l.degrees) l.degrees l.members l.v-index l.y
