-- `graph::ones` meets its contract: each number has at most 64 ones.
-- Assumes nothing.
use Rattle.std.proofs.Common.{ℕ, suc, ◌+◌, ◌≡◌, refl, sym, ap, ◌∙◌, take, get_or, count_ones}
use native.Mathlib.Omega.{arith}
use lib.Count.{ones-le}
use Rattle.theory.specs.Ones.{ones_of}
use Rattle.theory.proofs.Graph.Packed.{ones_of-more}
use Rattle.graph.proofs.rows.ones.Goals as goal

pub loop-number-init : goal.loop-number-init
unfolding ones_of
loop-number-init c = (refl, omega arith)

pub loop-number-preserved : goal.loop-number-preserved
loop-number-preserved c =
    let row = c.args.row.now in
    let i = c.loop-number.number-index in
    let next : i + 1 ≡ suc i = omega arith in
    let fits = c.type_inv.row i in
    let some = ones-le 64 (get_or row i 0) (omega arith) in
    (ap (λ (k : ℕ). k + count_ones (get_or row i 0)) c.loop-number.invariant.0 ∙ sym (ones_of-more row i c.loop-number-test.true) ∙ ap (λ (k : ℕ). ones_of (take k row)) (sym next), omega (arith, c.loop-number.invariant.1))
