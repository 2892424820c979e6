-- `pack::ByteTable::fill` meets its contract: each number is put in its place.
-- Assumes nothing.
use Prim.Native.Nat.{◌<◌}
use mathlib.Core.Path.{sym, ◌∙◌}
use native.Mathlib.Omega.{arith}
use lib.ListN.{length, length-set}
use lib.Seq.{ext_get_or}
use Rattle.model.specs.Graph.{packed_of}
use Rattle.theory.proofs.Graph.Packed.{packed-length}
use Rattle.pack.specs.Held.{graph_in}
use Rattle.pack.proofs.Numbers.{packed_place, same_more}
use Rattle.pack.proofs.bytes.ByteTable.fill.Goals as goal

pub loop-i-preserved : goal.loop-i-preserved
loop-i-preserved c =
    let inv = c.loop-i.invariant in
    let G = graph_in c.args.self.now in
    let q = c.loop-i.packed in
    let i = c.loop-i.i in
    let within : i < length q = omega arith in (
      length-set q i c.number.result ∙ inv.0,
      same_more q (packed_of G) i c.number.result within
          (c.number.ensures ∙ rw c.row_length-length.ensures (sym (packed_place G i (omega (arith, inv.0))))) inv.1,
    )

pub returns : goal.returns
returns c =
    let i = c.loop-i.invariant in
    ext_get_or 0 _ _ (i.0 ∙ sym (packed-length _)) (λ k h. i.1 k (omega arith))
