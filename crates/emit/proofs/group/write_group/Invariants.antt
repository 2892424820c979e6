-- `emit::group::write_group` meets its contract: after i vertices the first i of them stand right after the three entries before them.
-- Assumes nothing.
use mathlib.Core.Path.{◌≡◌}
use lib.ListN.{length}
use lib.Seq.{paste}
use Rattle.emit.proofs.group.write_group.Given as goal

abbrev pub invariant-loop-i : goal.invariant-loop-i
invariant-loop-i l = (l.out ≡ paste l.initial.out 3 l.vertices l.i) × (length l.out ≡ length l.initial.out)
