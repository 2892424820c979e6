-- `pack::ByteTable::number` meets its contract: each vertex puts its bit on top of those before it.
-- Assumes nothing.
use Prim.Native.Nat.{◌+◌, ◌*◌}
use mathlib.Core.Path.{◌≡◌, refl, ap, ◌∙◌}
use native.Mathlib.Omega.{arith}
use Rattle.model.specs.Below.{bit, total}
use Rattle.model.specs.Graph.{packed_number}
use Rattle.graph.proofs.RowBounds.{row-short}
use Rattle.pack.specs.Held.{graph_in}
use Rattle.pack.proofs.Numbers.{bits_more}
use Rattle.pack.proofs.bytes.ByteTable.number.Goals as goal

pub loop-k-init : goal.loop-k-init
unfolding total
loop-k-init c = refl

pub overflow_mul-j : goal.overflow_mul-j
overflow_mul-j c = let t = c.args.self.now in omega (arith, c.requires.1, row-short t.n t.fits.small)

pub overflow_add-j : goal.overflow_add-j
overflow_add-j c = let t = c.args.self.now in omega (arith, c.requires.1, row-short t.n t.fits.small, c.loop-k-test.true)

pub loop-k-preserved : goal.loop-k-preserved
loop-k-preserved c =
    bits_more (λ k. (graph_in c.args.self.now).joined c.args.u (64 * c.args.j + k)) c.loop-k.k c.loop-k-test.true c.loop-k.invariant (c.from.ensures ∙ ap bit c.joined_to.ensures)

pub returns : goal.returns
unfolding packed_number
returns c = let all : c.loop-k.k ≡ 64 = omega arith in rw all at c.loop-k.invariant
