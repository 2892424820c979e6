-- `members::members_of` meets its contract: the members that were passed stand in part 1.
-- Assumes nothing.
use Rattle.std.proofs.Common.{◌+◌, ◌≤◌, length}
use Rattle.model.specs.Below.{passing}
use Rattle.model.specs.Listing.{is}
use Rattle.theory.specs.Parts.{Filled}
use Rattle.members.proofs.members_of.Given as goal

abbrev pub invariant-loop-v : goal.invariant-loop-v
invariant-loop-v l = (l.k ≤ l.v) × Filled (length l.set) (length l.set + length l.set) (passing l.v (is 1 l.set)) l.initial.work l.work l.k
