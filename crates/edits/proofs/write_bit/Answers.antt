-- `edits::write_bit` meets its contract: the number that has the bit is one of the table's.
-- Assumes nothing.
use Rattle.std.proofs.Common.{ℕ, ◌≡◌, ◌*◌, ◌+◌, ◌/◌, ◌<◌, length}
use Rattle.model.specs.Graph.{with_row_bit}
use Rattle.theory.proofs.Graph.Packed.{pair_within}
use Rattle.edits.proofs.write_bit.Goals as goal
use Rattle.edits.proofs.write_bit.Goals.{After-row_length}

within : (c : After-row_length) → c.args.u * c.row_length.result + c.args.v / 64 < length c.args.table.now
within c = rw (c.row_length.ensures, c.requires.1) (pair_within c.args.n c.args.u c.args.v c.requires.2 c.requires.3)

pub bounds-table-place : goal.bounds-table-place
bounds-table-place c = within (goal.at.bounds-table-place c).After-row_length

pub bounds-table-place-2 : goal.bounds-table-place-2
bounds-table-place-2 c = within (goal.at.bounds-table-place-2 c).After-row_length

pub returns : goal.returns
unfolding with_row_bit
returns c = rw (c.with_bit.ensures, c.row_length.ensures)
