-- `emit::group::put_group` meets its contract: the unused part of the output, lent from its middle, comes back with the group at its start.
-- Assumes nothing.
use native.Mathlib.Omega.{arith}
use lib.ListN.{length}
use Rattle.model.specs.Listing.{record_with, record_length}
use Rattle.emit.proofs.Groups.{tail_at}
use Rattle.emit.proofs.group.put_group.Goals as goal

pub returns : goal.returns
returns c =
    let a = c.args in
    let vs = a.vertices.now in
    tail_at a.output.now (record_with a.edges vs) c.write_group.new.out a.used (record_length (length vs)) (omega arith) c.write_group.ensures
