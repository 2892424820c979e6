-- `edits::write_pair` meets its contract: one bit after the other.
-- Assumes nothing.
use Rattle.std.proofs.Common.{ap, ◌∙◌, length}
use Rattle.model.specs.Graph.{with_bits}
use Rattle.theory.proofs.Graph.PackedPairs.{row_bit-length}
use Rattle.edits.proofs.write_pair.Goals as goal

pub returns : goal.returns
unfolding with_bits
returns c = rw c.write_bit.ensures at c.write_bit-2.ensures

pub write_bit-requires-2 : goal.write_bit-requires-2
write_bit-requires-2 c =
    let h = c.requires in
    (h.0, ap length c.write_bit.ensures ∙ row_bit-length c.args.joins c.args.n c.args.u c.args.v c.args.table.now ∙ h.1, h.3, h.2)
