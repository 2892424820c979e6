-- `graph::Table::joined` meets its contract: the bit of the pair is read off the number that has it.
-- Assumes nothing.
use mathlib.Core.Path.{sym}
use Rattle.model.specs.Graph.{pair_bit}
use Rattle.theory.proofs.Graph.Packed.{pair_within, packed-joined_at}
use Rattle.graph.proofs.table.Table.joined.Goals as goal

pub bounds-self-u : goal.bounds-self-u
bounds-self-u c =
    let t = c.args.self.now in
    rw (c.args.self.now.wide, t.fits.whole) (pair_within t.n c.args.u c.args.v c.requires.0 c.requires.1)

pub returns : goal.returns
unfolding pair_bit
returns c =
    let t = c.args.self.now in
    rw c.args.self.now.wide (sym (packed-joined_at t.n t.numbers.now c.args.u c.requires.0 c.args.v c.requires.1))
