-- `graph::Table::number` meets its contract.
-- Assumes nothing.
use Prim.Native.Nat.{◌+◌, ◌*◌}
use native.Mathlib.Omega.{arith}
use Rattle.theory.proofs.Graph.Packed.{clean_iff, number_held, number_none}
use Rattle.graph.proofs.RowBounds.{row-short}
use Rattle.graph.proofs.table.Table.number.Goals as goal

pub overflow_mul-u : goal.overflow_mul-u
overflow_mul-u c = let t = c.args.self.now in let s = row-short t.n t.fits.small in let h = c.requires.0 in omega arith

pub overflow_add-u : goal.overflow_add-u
overflow_add-u c = let t = c.args.self.now in let s = row-short t.n t.fits.small in let h = c.requires.0 in let r = c.requires.1 in omega arith

pub returns-then-u-self : goal.returns-then-u-self
returns-then-u-self c =
    let t = c.args.self.now in
    rw c.args.self.now.wide
    (number_held t.n t.numbers.now (64 * c.args.i + c.args.r) c.args.j ((clean_iff t.n t.numbers.now).0 t.fits.none-stray) c.if-u-self.true c.requires.2)

pub returns-else-u-self : goal.returns-else-u-self
returns-else-u-self c = let t = c.args.self.now in number_none t.n t.numbers.now (64 * c.args.i + c.args.r) c.args.j c.if-u-self.false
