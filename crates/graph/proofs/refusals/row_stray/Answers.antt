-- `graph::row_stray` meets its contract: the last number tells.
-- Assumes nothing.
use Prim.Native.Nat.{◌+◌, ◌*◌, ◌≤◌, ◌<◌}
use native.Mathlib.Omega.{arith}
use Rattle.theory.proofs.Graph.Packed.{row_length-is, number_within}
use Rattle.graph.proofs.RowBounds.{row-short}
use Rattle.graph.proofs.Stray.{last-stray}
use Rattle.graph.proofs.refusals.row_stray.Goals as goal
use Rattle.graph.proofs.refusals.row_stray.Goals.{After-row_length-length}

-- how long a row is
long : (c : After-row_length-length) → let g = c.args in let w = c.row_length-length.result in (g.n ≤ 64 * w) × (64 * w < g.n + 64) × (1 ≤ w) × (w ≤ 16)
long c =
    let e = c.row_length-length.ensures in
    let f = row_length-is c.args.n in
    let m = row-short c.args.n c.requires.0 in
    let h = c.requires.2 in
    (omega arith, omega arith, omega arith, omega arith)

pub overflow_mul-most : goal.overflow_mul-most
overflow_mul-most c = let l = (long c).3 in omega arith

pub overflow_sub-most : goal.overflow_sub-most
overflow_sub-most c = (long c).0

pub overflow_shr-most : goal.overflow_shr-most
overflow_shr-most c = let l = (long c).1 in omega arith

pub overflow_sub-result : goal.overflow_sub-result
overflow_sub-result c = (long c).2

pub bounds-numbers-u : goal.bounds-numbers-u
bounds-numbers-u c =
    let some = (long (goal.at.bounds-numbers-u c).After-row_length-length).2 in
    rw (c.row_length-length.ensures, c.requires.1) (number_within c.args.n c.args.u _ c.requires.2 (omega (arith, c.row_length-length.ensures)))

pub returns : goal.returns
returns c = rw c.row_length-length.ensures (last-stray c.args.n c.args.numbers.now (λ i. let f = c.type_inv.numbers i in omega arith) c.args.u c.requires.2)
