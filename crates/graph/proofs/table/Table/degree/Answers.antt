-- `graph::Table::degree` meets its contract: the row is a part of the table, and its ones are the degree.
-- Assumes nothing.
use Rattle.std.proofs.Common.{sym, ap, ◌∙◌}
use native.Mathlib.Omega.{arith}
use Rattle.std.proofs.lemmas.List.{length-take}
use Rattle.theory.specs.Ones.{ones_of}
use Rattle.theory.proofs.Graph.Packed.{clean_iff, degree_ones}
use Rattle.graph.proofs.RowBounds.{row-short, row-part}
use Rattle.graph.proofs.table.Table.degree.Goals as goal

pub ones-requires : goal.ones-requires
ones-requires c =
    let t = c.args.self.now in
    let short = row-short t.n t.fits.small in
    simp length-take (omega arith)

pub returns : goal.returns
returns c =
    let t = c.args.self.now in
    rw c.args.self.now.wide at c.ones.ensures
    ∙ ap ones_of (row-part t.n t.numbers.now c.args.u)
    ∙ sym (degree_ones t.n t.numbers.now ((clean_iff t.n t.numbers.now).0 t.fits.none-stray) t.fits.whole c.args.u c.requires)
